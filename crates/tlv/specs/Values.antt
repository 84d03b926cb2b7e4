-- The bytes of an object's value.
use Rattle.std.specs.Prelude.{ℕ, List, take, drop}
use Rattle.tlv.specs.declared.place.Place.{Place}

-- an object's value: so many bytes of the text, from its place on
abbrev pub value_at : List ℕ → Place → List ℕ
value_at text p = take p.len (drop p.start text)
