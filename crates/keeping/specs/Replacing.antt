-- What a store holds after a text was taken, in words: its objects, and besides them what was held.
use Rattle.std.specs.Prelude.{◌≡◌, ℕ, false, List, Some, None}
use Rattle.std.specs.List.{AllByRecursion}
use Rattle.dictionary.specs.declared.entry.Entry.{Entry}
use Rattle.dictionary.specs.Dictionary.{entry_of}
use Rattle.tlv.specs.declared.place.Place.{Place}
use Rattle.tlv.specs.Series.{meaning}
use Rattle.tlv.specs.Values.{value_at}
use Rattle.store.specs.Map.{Map}
use Rattle.judge.specs.Rules.{named}
use Rattle.keeping.specs.Keeping.{places_read}

-- an object of a known tag is held with its value
abbrev pub HeldIn : List ℕ → Map → Place → Type 0
HeldIn text m p = (e : Entry) → entry_of p.tag ≡ Some e → m p.tag ≡ Some (value_at text p)

-- Each known object of the text is held with its value; an unknown tag, and a tag that the text does not have, hold what
-- they held.
pub record Replaced (text : List ℕ) (before after : Map) : Type 0 where
  pub objects : AllByRecursion (HeldIn text after) (places_read (meaning text))
  pub unknown : (t : ℕ) → entry_of t ≡ None → after t ≡ before t
  pub others : (t : ℕ) → named t (places_read (meaning text)) ≡ false → after t ≡ before t
