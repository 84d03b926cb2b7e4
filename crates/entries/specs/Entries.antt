-- A list of entries as a map.
use Rattle.std.specs.Prelude.{ℕ, Bool, true, not, ◌&&◌, List, [], ◌∷◌, length, is_some, Some, nat_le, nat_lt}
use Rattle.store.specs.Map.{Map, changed, empty}

-- a tag and its value
abbrev pub Entry : Type 0
Entry = ℕ × List ℕ

-- what the entries hold
abbrev pub lookup : List Entry → Map
lookup [] = empty
lookup (e ∷ es) = changed (lookup es) e.0 (Some e.1)

-- each tag has 24 bits, each value at most 255 bytes, and no tag comes twice: a test, since an invariant in a type states a proposition
abbrev pub good : List Entry → Bool
good [] = true
good (e ∷ es) = nat_lt e.0 16777216 && (nat_le (length e.1) 255 && (not (is_some (lookup es e.0)) && good es))
