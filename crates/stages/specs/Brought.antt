-- What a text brings by itself.
use Rattle.std.specs.Prelude.{ℕ, cond, List, [], ◌∷◌, ◌==◌}
use Rattle.tlv.specs.declared.place.Place.{Place}
use Rattle.tlv.specs.Values.{value_at}

-- the value of the last object with the tag, v where there is none
abbrev pub last_value : List ℕ → List Place → ℕ → List ℕ → List ℕ
last_value text [] t v = v
last_value text (p ∷ ps) t v = last_value text ps t (cond (p.tag == t) (value_at text p) v)
