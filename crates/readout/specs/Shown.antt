-- What is written out: objects, one after the other, and what reading them gives.
use Rattle.std.specs.Prelude.{◌≡◌, ℕ, zero, suc, true, cond, List, [], ◌∷◌, ◌++◌, length, take, IfOk, Some, None, Option, Result}
use Rattle.std.specs.List.{AllByRecursion}
use Rattle.std.specs.Option.{option_map}
use Rattle.store.specs.Map.{Map}
use Rattle.tlv.specs.Objects.{end, primitive, constructed, Next, fault, seen, next_at}
use Rattle.tlv.specs.Written.{is_tag, object_bytes}
use Rattle.readout.specs.declared.object.Absent.{Absent}
use Rattle.readout.specs.declared.object.Absent.TheVariants.{LeftOut, Empty}
use Rattle.readout.specs.declared.refusal.ReadoutRefusal.{ReadoutRefusal}

-- an object: its tag and its value
pub record Object : Type 0 where
  pub tag : ℕ
  pub value : List ℕ

-- the object of a tag and a value
abbrev pub object_of : ℕ → List ℕ → Object
object_of t v = record { tag = t; value = v }

-- the object shown for a tag under which o is held: itself, and if there is none, nothing or an empty object
abbrev pub given : Absent → ℕ → Option (List ℕ) → List Object
given a t (Some v) = object_of t v ∷ []
given LeftOut t None = []
given Empty t None = object_of t [] ∷ []

-- a number that is no tag's has no object
abbrev pub shown : Absent → ℕ → Option (List ℕ) → List Object
shown a t o = cond (is_tag t) (given a t o) []

-- the numbers are those of tags
abbrev pub AllTags : List ℕ → Type 0
AllTags = AllByRecursion (λ t. is_tag t ≡ true)

-- the objects of a map under these tags, in their order
abbrev pub objects_at : Absent → List ℕ → Map → List Object
objects_at a [] m = []
objects_at a (t ∷ ts) m = shown a t (m t) ++ objects_at a ts m

-- the bytes of objects, one after the other
abbrev pub bytes_of : List Object → List ℕ
bytes_of [] = []
bytes_of (x ∷ xs) = object_bytes x.tag x.value ++ bytes_of xs

-- what stands next is the end of the series, or an object and then more; nothing is told of bytes with a fault
abbrev pub on_next : (List ℕ → Option (List Object)) → Next → Option (List Object)
on_next again (fault k at) = None
on_next again (seen end rest) = Some []
on_next again (seen (primitive t at start v) rest) = option_map (λ xs. object_of t v ∷ xs) (again rest)
on_next again (seen (constructed t at start v) rest) = option_map (λ xs. object_of t v ∷ xs) (again rest)

-- a series, read with at most so many turns
unfoldable pub objects_by : ℕ → List ℕ → Option (List Object)
objects_by zero bs = None
objects_by (suc k) bs = on_next (λ rest. objects_by k rest) (next_at (length bs) bs)

-- The objects of a series, read one after the other, each by what stands next; each has a byte at least, so that many
-- turns are enough.
abbrev pub objects_in : List ℕ → Option (List Object)
objects_in bs = objects_by (suc (length bs)) bs

-- Reading what was written gives exactly these objects, in this order.
abbrev pub ReadsAs : Result ℕ ReadoutRefusal → List ℕ → List Object → Type 0
ReadsAs r out xs = IfOk r (λ n. objects_in (take n out) ≡ Some xs)
