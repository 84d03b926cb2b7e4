-- What the steps of storing, of summing and of clearing are, for the functions that take them.
use Rattle.std.specs.Prelude.{◌≡◌, ℕ, ◌≤◌, cond, List, [], ◌∷◌, length, Some, None, Ok, Err, Option, Result, ◌==◌}
use Rattle.dictionary.specs.declared.entry.Entry.{Entry}
use Rattle.dictionary.specs.Dictionary.{entry_of}
use Rattle.tlv.specs.declared.place.Place.{Place}
use Rattle.tlv.specs.Series.{meaning}
use Rattle.tlv.specs.Values.{value_at}
use Rattle.store.specs.Map.{Map, changed, count, total}
use Rattle.judge.specs.declared.kind.TextKind.{TextKind}
use Rattle.judge.specs.Writers.{by_writer}
use Rattle.judge.specs.Accepted.{AllFit}
use Rattle.keeping.specs.declared.shares.Shares.{Shares}
use Rattle.keeping.specs.declared.refusal.TakeRefusal.{TakeRefusal}
use Rattle.keeping.specs.Keeping.{stored_one, stored, places_read}
use Rattle.keeping.specs.Shares.{writer_total, share_of}

-- a known object is short enough, and its tag is not held
abbrev pub FreshBy : List ℕ → Map → Place → Option Entry → Type 0
FreshBy text m p None = Unit {0}
FreshBy text m p (Some e) = (m p.tag ≡ None) × (length (value_at text p) ≤ 255)

-- so is each of these in turn, when its turn comes
abbrev pub Fresh : List ℕ → List Place → Map → Type 0
Fresh text [] m = Unit {0}
Fresh text (p ∷ ps) m = FreshBy text m p (entry_of p.tag) × Fresh text ps (stored_one text m p)

-- a map that a store of those limits can hold
pub record Holds (objects bytes : ℕ) (m : Map) : Type 0 where
  pub few : count m ≤ objects
  pub small : total m ≤ bytes

-- objects that can be put one after the other
pub record Puttable (objects bytes : ℕ) (text : List ℕ) (ps : List Place) (m : Map) : Type 0 where
  pub fresh : Fresh text ps m
  pub room : Holds objects bytes (stored text ps m)

-- the length that a tag's value has after these objects of a text, n before
abbrev pub length_after : List ℕ → List Place → ℕ → ℕ → ℕ
length_after text [] t n = n
length_after text (p ∷ ps) t n = length_after text ps t (cond (p.tag == t) (length (value_at text p)) n)

-- an accepted text, of which these are the places, after which its writer keeps its share
pub record Weighed (s : Shares) (k : TextKind) (m : Map) (text : List ℕ) (ps : List Place) : Type 0 where
  pub places : ps ≡ places_read (meaning text)
  pub fits : AllFit k m text [] ps
  pub share : writer_total k (stored text ps m) ≤ share_of s k

-- the answer without the number of places
abbrev pub answered : Result ℕ TakeRefusal → Result (Unit {0}) TakeRefusal
answered (Ok n) = Ok tt
answered (Err e) = Err e

-- one entry cleared: its tag removed, unless it is the configuration's
abbrev pub cleared_one : Map → Entry → Map
cleared_one m e = by_writer m (changed m e.tag None) (changed m e.tag None) (changed m e.tag None) (changed m e.tag None) e.writer

-- these entries cleared, one after the other
abbrev pub cleared_all : List Entry → Map → Map
cleared_all [] m = m
cleared_all (e ∷ es) m = cleared_all es (cleared_one m e)
