-- What holds of the data of a list.
use Rattle.std.specs.Prelude.{◌≡◌, ℕ, Bool, true, false, ◌||◌, List, [], ◌∷◌, ◌++◌, length, take, drop, replicate, Some, None, Option, ◌==◌}
use Rattle.store.specs.Map.{Map}
use Rattle.dictionary.specs.Dictionary.{entry_of, constructed}
use Rattle.dol.specs.Dol.{Asked, value_for, entries, total, dol_data}

-- The data has exactly the sum of the lengths asked for.
abbrev pub Sized : List ℕ → Type 0
Sized dol = (held : Map) (limit : ℕ) (es : List Asked) (ds : List ℕ) → entries dol ≡ Some es → dol_data held limit dol ≡ Some ds → length ds ≡ total es

-- Each entry has a slice of its own length, which is made from its own object alone: its tag's entry in the dictionary,
-- and what is held under that tag.
abbrev pub EachAlone : List ℕ → Type 0
EachAlone dol =
    (held : Map) (limit : ℕ) (before : List Asked) (a : Asked) (after : List Asked) (ds : List ℕ)
    → entries dol ≡ Some (before ++ a ∷ after) → dol_data held limit dol ≡ Some ds
    → take a.size (drop (total before) ds) ≡ value_for (entry_of a.tag) (held a.tag) a.size

-- some entry has the tag
abbrev pub asks_for : List Asked → ℕ → Bool
asks_for [] t = false
asks_for (a ∷ es) t = a.tag == t || asks_for es t

abbrev pub named_by : Option (List Asked) → ℕ → Bool
named_by None t = false
named_by (Some es) t = asks_for es t

-- two stores' objects are the same under each tag that the list names
abbrev pub Agree : List ℕ → Map → Map → Type 0
Agree dol held other = (t : ℕ) → named_by (entries dol) t ≡ true → held t ≡ other t

-- An object that no entry names moves no byte of the data.
abbrev pub OnlyNamed : List ℕ → Type 0
OnlyNamed dol = (limit : ℕ) (held other : Map) → Agree dol held other → dol_data held limit dol ≡ dol_data other limit dol

-- A constructed tag gives zeros, as an unknown one does.
abbrev pub Zeros : Type 0
Zeros = (held : Map) (t n : ℕ) → constructed t ≡ true → value_for (entry_of t) (held t) n ≡ replicate n 0

-- All of these.
pub record Lawful (dol : List ℕ) : Type 0 where
  pub sized : Sized dol
  pub each_alone : EachAlone dol
  pub only_named : OnlyNamed dol
  pub zeros : Zeros
