-- What a text means: the primitive objects in it, in their order, or its first fault.
use Rattle.std.specs.Prelude.{ℕ, zero, suc, ◌+◌, cond, List, [], ◌∷◌, ◌++◌, length, nat_lt}
use Rattle.tlv.specs.declared.fault.FaultKind.{FaultKind}
use Rattle.tlv.specs.declared.fault.FaultKind.TheVariants.{TooDeep, TooMany}
use Rattle.tlv.specs.declared.place.Place.{Place}
use Rattle.tlv.specs.Objects.{Seen, end, primitive, constructed, Next, fault, seen, next_at}

-- the depth of the innermost objects, and the most primitive objects of a text
abbrev pub deepest : ℕ
deepest = 5

abbrev pub most_objects : ℕ
most_objects = 64

-- A fault and its place, or the objects found.
pub data Reading : Type 0 where
  wrong : FaultKind → ℕ → Reading
  found : List Place → Reading

abbrev pub place : ℕ → ℕ → ℕ → ℕ → Place
place t at start n = record { tag = t; at = at; start = start; len = n }

-- Reading goes on from the objects found so far, and stops at a fault.
abbrev pub and_then : Reading → (List Place → Reading) → Reading
and_then (wrong k p) next = wrong k p
and_then (found before) next = next before

-- What reads a series: its depth, the place just past it, its bytes, and the objects found before it.
abbrev pub Reader : Type 0
Reader = ℕ → ℕ → List ℕ → List Place → Reading

-- One object at depth d, with `inside` for the series inside it: an object at depth 6 is too deep,
-- and a 65th primitive object is one too many.
abbrev pub read_object : Reader → ℕ → List Place → Seen → Reading
read_object inside d before end = found before
read_object inside d before (primitive t at start value) =
    cond (nat_lt deepest d) (wrong TooDeep at) (cond (nat_lt (length before) most_objects) (found (before ++ place t at start (length value) ∷ [])) (wrong TooMany at))
read_object inside d before (constructed t at start value) =
    let found_inside = inside (d + 1) (start + length value) value before in
    cond (nat_lt deepest d) (wrong TooDeep at) found_inside

-- A series, by what stands next in it: its end, or an object and then the rest of the series, read by `again`.
abbrev pub read_next : Reader → ℕ → ℕ → List Place → Next → Reading
read_next again d e before (fault k at) = wrong k at
read_next again d e before (seen end rest) = found before
read_next again d e before (seen (primitive t at start value) rest) =
    and_then (read_object again d before (primitive t at start value)) (again d e rest)
read_next again d e before (seen (constructed t at start value) rest) =
    and_then (read_object again d before (constructed t at start value)) (again d e rest)

-- A series, read with at most k calls one inside the other.
unfoldable pub series_by : ℕ → Reader
series_by zero d e bs before = found before
series_by (suc k) d e bs before = read_next (λ d' e' bs' before'. series_by k d' e' bs' before') d e before (next_at e bs)

-- Each call has fewer bytes than the one around it, so that many calls are enough.
unfoldable pub series : Reader
series d e bs before = series_by (suc (length bs)) d e bs before

-- The outermost objects have depth 1.
abbrev pub meaning : List ℕ → Reading
meaning text = series 1 (length text) text []
