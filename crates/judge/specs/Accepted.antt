-- What holds of the objects of an accepted text.
use Rattle.std.specs.Prelude.{◌≡◌, ℕ, true, false, not, ◌&&◌, List, [], ◌∷◌, ◌++◌, length, Some, None, Option}
use Rattle.dictionary.specs.declared.entry.Entry.{Entry}
use Rattle.dictionary.specs.Dictionary.{entry_of}
use Rattle.dictionary.specs.Checks.{fits_length, fits_format}
use Rattle.tlv.specs.declared.place.Place.{Place}
use Rattle.tlv.specs.Values.{value_at}
use Rattle.store.specs.Map.{Map}
use Rattle.judge.specs.declared.kind.TextKind.{TextKind}
use Rattle.judge.specs.Kinds.{writes, late, own}
use Rattle.judge.specs.Rules.{named, has_value}

-- an object of a known tag: its writer's, of a length and of digits that fit, its tag standing nowhere before it, not held
-- with a value where it is a card's, and not too late
pub record FitsEntry (k : TextKind) (m : Map) (text : List ℕ) (earlier : List Place) (p : Place) (e : Entry) : Type 0 where
  pub writer : writes k e.writer ≡ true
  pub sized : fits_length e (length (value_at text p)) ≡ true
  pub digits : fits_format e.format (value_at text p) ≡ true
  pub once : named p.tag earlier ≡ false
  pub free : (not (own k) && has_value (m p.tag)) ≡ false
  pub early : late k e.writer ≡ false

-- an unknown tag stands in a card's text only
abbrev pub FitsBy : TextKind → Map → List ℕ → List Place → Place → Option Entry → Type 0
FitsBy k m text earlier p None = own k ≡ false
FitsBy k m text earlier p (Some e) = FitsEntry k m text earlier p e

-- each of the primitive objects at these places fits, after those passed
abbrev pub AllFit : TextKind → Map → List ℕ → List Place → List Place → Type 0
AllFit k m text passed [] = Unit {0}
AllFit k m text passed (p ∷ ps) = FitsBy k m text passed p (entry_of p.tag) × AllFit k m text (passed ++ p ∷ []) ps
