-- Keys, and lists of elements that have them.
use Rattle.std.specs.Prelude.{◌≡◌, ℕ, ◌<◌, Bool, false, List, length, ◌≢◌, slice_index_or}
use Rattle.std.specs.List.{list_any}

-- whether two elements have equal keys
abbrev pub by : {X K : Type 0} → (X → K) → (K → K → Bool) → X → X → Bool
by key same x y = same (key x) (key y)

-- whether one of the elements has the key of x
abbrev pub holds : {X : Type 0} → (X → X → Bool) → List X → X → Bool
holds same ys x = list_any (λ y. same y x) ys

-- no two elements have equal keys
abbrev pub Distinct : {X : Type 0} → (X → X → Bool) → List X → Type 0
Distinct {X} same xs =
    (i j : ℕ) (d : X) → i < length xs → j < length xs → (i ≢ j) → same (slice_index_or xs i d) (slice_index_or xs j d) ≡ false
