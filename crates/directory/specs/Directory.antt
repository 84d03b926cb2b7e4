-- A directory beside a value area: slots with a tag and a size, and the values back to back in the same order.
use Rattle.std.specs.Prelude.{◌≡◌, ℕ, ◌+◌, ◌≤◌, true, cond, List, [], ◌∷◌, length, take, drop, Some, None, Option, ◌==◌}
use Rattle.directory.specs.declared.slot.Slot.{Slot}
use Rattle.store.specs.Map.{Map}
use Rattle.entries.specs.Entries.{Entry, lookup, good}

-- a slot of that tag and size
abbrev pub slot : ℕ → ℕ → Slot
slot t n = record { tag = t; size = n }

-- how many value bytes the slots tell
abbrev pub sizes : List Slot → ℕ
sizes [] = 0
sizes (s ∷ ss) = s.size + sizes ss

-- the size in the slot of a tag
abbrev pub slot_at : List Slot → ℕ → Option ℕ
slot_at [] t = None
slot_at (s ∷ ss) t = cond (t == s.tag) (Some s.size) (slot_at ss t)

-- the entries
abbrev pub cut : List Slot → List ℕ → List Entry
cut [] vs = []
cut (s ∷ ss) vs = (s.tag, take s.size vs) ∷ cut ss (drop s.size vs)

-- the slots account for the bytes, and the entries are good
abbrev pub Filed : List Slot → List ℕ → Type 0
Filed ss vs = (sizes ss ≡ length vs) × (good (cut ss vs) ≡ true)

-- n slots and u value bytes are in use
abbrev pub Ordered : ℕ → ℕ → List Slot → List ℕ → Type 0
Ordered n u ss vs = (n ≤ length ss) × (u ≤ length vs) × Filed (take n ss) (take u vs)

-- the map that they hold
abbrev pub filed_map : ℕ → ℕ → List Slot → List ℕ → Map
filed_map n u ss vs = lookup (cut (take n ss) (take u vs))
