-- What a keyed list over the caller's memory holds, and what adding to it answers and leaves.
use Rattle.std.specs.Prelude.{ℕ, Bool, if◌then◌else◌, List, [], ◌∷◌, ◌++◌, length, take, nat_lt, slice_set, Result, Ok, Err}
use Rattle.keyed.specs.Keys.{holds}
use Rattle.keyed.specs.declared.list.NotAdded.{NotAdded}
use Rattle.keyed.specs.declared.list.NotAdded.TheVariants.{AlreadyThere, Full}
use Rattle.keyed.specs.declared.list.KeyedList.{KeyedList}

-- the caller's memory
abbrev pub memory : {X : Type 0} → KeyedList X → List X
memory l = l.items.now

-- the elements
abbrev pub elements : {X : Type 0} → KeyedList X → List X
elements l = take l.len (memory l)

-- what adding x to xs answers, with room for so many: an equal key comes first
abbrev pub answer : {X : Type 0} → (X → X → Bool) → ℕ → List X → X → Result (Unit {0}) NotAdded
answer same room xs x = if holds same xs x then Err AlreadyThere else if nat_lt (length xs) room then Ok tt else Err Full

-- the elements after that answer
abbrev pub grown : {X : Type 0} → Result (Unit {0}) NotAdded → List X → X → List X
grown (Ok _) xs x = xs ++ x ∷ []
grown (Err _) xs x = xs

-- the memory after it: only the place behind the n elements may change
abbrev pub stored : {X : Type 0} → Result (Unit {0}) NotAdded → List X → ℕ → X → List X
stored (Ok _) mem n x = slice_set mem n x
stored (Err _) mem n x = mem
