-- A list read entry by entry.
use Rattle.std.specs.Prelude.{◌≡◌, ℕ, ◌+◌, ◌*◌, ◌%◌, ◌≤◌, cond, List, [], ◌∷◌, Some, None, Ok, Err, Option, Result, ◌==◌, nat_lt}
use Rattle.store.specs.Map.{Map}
use Rattle.dol.specs.declared.size.DolFault.{DolFault}
use Rattle.dol.specs.declared.size.Head.{Head}
use Rattle.dol.specs.Dol.{Asked, entries, total, dol_data, filled}

-- the list is not faulty, and its data fits n bytes from a place on
abbrev pub Room : ℕ → Option (List Asked) → ℕ → Type 0
Room at None n = ⊥
Room at (Some es) n = at + total es ≤ n

-- a list with a size has room for its data; one with a fault leaves every buffer as it was
abbrev pub Planned : ℕ → List ℕ → Result ℕ DolFault → Type 0
Planned limit dol (Ok n) = Room 0 (entries dol) limit
Planned limit dol (Err e) = (held : Map) (buf : List ℕ) → buf ≡ filled (dol_data held limit dol) buf

-- the first entry, and the bytes after it
pub record Front : Type 0 where
  pub tag : ℕ
  pub size : ℕ
  pub rest : List ℕ

abbrev pub seen : Head → Front
seen h = record { tag = h.tag; size = h.size; rest = h.rest.now }

abbrev pub sized : ℕ → List ℕ → Option Front
sized t [] = None
sized t (n ∷ bs) = Some (record { tag = t; size = n; rest = bs })

abbrev pub third_byte : ℕ → List ℕ → Option Front
third_byte t [] = None
third_byte t (b ∷ bs) = cond (nat_lt b 128) (sized (t * 256 + b) bs) None

abbrev pub second_byte : ℕ → List ℕ → Option Front
second_byte t [] = None
second_byte t (b ∷ bs) = cond (nat_lt b 128) (sized (t * 256 + b) bs) (third_byte (t * 256 + b) bs)

abbrev pub front : List ℕ → Option Front
front [] = None
front (b ∷ bs) = cond (b % 32 == 31) (second_byte b bs) (sized b bs)
