-- What holds of the records of an accepted AFL.
use Rattle.std.specs.Prelude.{◌≡◌, ℕ, ◌+◌, ◌*◌, ◌≤◌, Bool, false, cond, ◌&&◌, ◌||◌, List, [], ◌∷◌, Some, ◌==◌, nat_le}
use Rattle.std.specs.List.{AllByRecursion}
use Rattle.keyed.specs.declared.record.Record.{Record}
use Rattle.keyed.specs.Records.{record_same}
use Rattle.afl.specs.Afl.{records_of}

-- an entry for the file f from a to z names this record
abbrev pub within : ℕ → ℕ → ℕ → Record → Bool
within f a z x = x.sfi * 8 == f && (nat_le a x.number && nat_le x.number z)

-- some entry names it
abbrev pub names : List ℕ → Record → Bool
names [] x = false
names (f ∷ []) x = false
names (f ∷ a ∷ []) x = false
names (f ∷ a ∷ z ∷ []) x = false
names (f ∷ a ∷ z ∷ n ∷ bs) x = within f a z x || names bs x

-- how often a record stands in a list
abbrev pub times : Record → List Record → ℕ
times x [] = 0
times x (r ∷ rs) = cond (record_same r x) 1 0 + times x rs

-- The list has each record that an entry names exactly once, and no other.
abbrev pub EachOnce : List ℕ → Type 0
EachOnce bs = (rs : List Record) → records_of bs ≡ Some rs → (x : Record) → times x rs ≡ cond (names bs x) 1 0

-- Each of its records is in a file of SFI 1 to 30.
abbrev pub Files : List ℕ → Type 0
Files bs = (rs : List Record) → records_of bs ≡ Some rs → AllByRecursion (λ r. (1 ≤ r.sfi) × (r.sfi ≤ 30)) rs
