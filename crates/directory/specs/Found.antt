-- Where a search finds an object.
use Rattle.std.specs.Prelude.{◌≡◌, ℕ, ◌+◌, ◌<◌, ◌≤◌, List, ◌∷◌, ◌++◌, length, take, drop, Some}
use Rattle.directory.specs.declared.slot.Slot.{Slot}
use Rattle.directory.specs.Directory.{slot, sizes, slot_at, filed_map}

-- the slot of the tag t among ss is the one at i, and its n bytes start at the place at
pub record At (ss : List Slot) (t i at n : ℕ) : Type 0 where
  pub pre : List Slot
  pub post : List Slot
  pub split : ss ≡ pre ++ slot t n ∷ post
  pub long : length pre ≡ i
  pub start : at ≡ sizes pre
  pub size : slot_at ss t ≡ Some n
  pub room : at + n ≤ sizes ss
  pub within : i < length ss

-- a held object: its slot, and its value in the area vs
pub record Found (n u : ℕ) (ss : List Slot) (vs : List ℕ) (t i at z : ℕ) : Type 0 where
  pub slot : At (take n ss) t i at z
  pub here : filed_map n u ss vs t ≡ Some (take z (drop at vs))
  pub long : length (take z (drop at vs)) ≡ z
  pub inside : at + z ≤ length vs
