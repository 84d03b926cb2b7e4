-- Which objects of a text are judged.
use Rattle.std.specs.Prelude.{ℕ, zero, suc, Bool, true, false, cond, List, [], ◌∷◌, length}
use Rattle.tlv.specs.declared.place.Place.{Place}
use Rattle.tlv.specs.Objects.{end, primitive, constructed, Next, fault, seen, next_at}
use Rattle.tlv.specs.Series.{place}
use Rattle.judge.specs.declared.kind.TextKind.{TextKind}
use Rattle.judge.specs.Kinds.{own}

-- An object of a text: its place, and whether it is constructed.
pub record Object : Type 0 where
  pub place : Place
  pub built : Bool

abbrev pub plain : Place → Object
plain p = record { place = p; built = false }

abbrev pub nested : Place → Object
nested p = record { place = p; built = true }

-- the primitive objects at these places
abbrev pub plains : List Place → List Object
plains [] = []
plains (p ∷ ps) = plain p ∷ plains ps

-- the places of these objects
abbrev pub places : List Object → List Place
places [] = []
places (o ∷ os) = o.place ∷ places os

-- An object that stands next, and then those after it, listed by `again`.
abbrev pub list_next : (List ℕ → List Object) → Next → List Object
list_next again (fault k at) = []
list_next again (seen end rest) = []
list_next again (seen (primitive t at start v) rest) = plain (place t at start (length v)) ∷ again rest
list_next again (seen (constructed t at start v) rest) = nested (place t at start (length v)) ∷ again rest

-- with at most k calls one inside the other
unfoldable pub outermost_by : ℕ → ℕ → List ℕ → List Object
outermost_by zero e bs = []
outermost_by (suc k) e bs = list_next (λ bs'. outermost_by k e bs') (next_at e bs)

-- The outermost objects of a series that ends just before the place e, places rising. Each call has fewer bytes than
-- the one around it, so that many calls are enough.
unfoldable pub outermost : ℕ → List ℕ → List Object
outermost e bs = outermost_by (suc (length bs)) e bs

-- Of an own text its outermost objects are judged; a card's is looked into, and its primitive objects ps are judged.
abbrev pub objects_of : TextKind → List ℕ → List Place → List Object
objects_of k text ps = cond (own k) (outermost (length text) text) (plains ps)
