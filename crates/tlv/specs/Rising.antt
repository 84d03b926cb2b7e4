-- Objects are found in the order of their places.
use Rattle.std.specs.Prelude.{ℕ, ◌+◌, ◌<◌, List, length}
use Rattle.std.specs.List.{AllByRecursion}
use Rattle.tlv.specs.declared.place.Place.{Place}
use Rattle.tlv.specs.Objects.{Seen, end, primitive, constructed}

-- the place of an object's first byte
abbrev pub first_place : Seen → ℕ
first_place end = 0
first_place (primitive t at start v) = at
first_place (constructed t at start v) = at

-- the place just past an object
abbrev pub last_place : Seen → ℕ
last_place end = 0
last_place (primitive t at start v) = start + length v
last_place (constructed t at start v) = start + length v

-- an object's value comes after its first byte
abbrev pub Ordered : Seen → Type 0
Ordered end = Unit {0}
Ordered (primitive t at start v) = at < start
Ordered (constructed t at start v) = at < start

-- each object begins before the place p
abbrev pub Before : ℕ → List Place → Type 0
Before p ps = AllByRecursion (λ q. q.at < p) ps
