-- The records that an application file locator names.
use Rattle.std.specs.Prelude.{ℕ, zero, suc, ◌+◌, ◌-◌, ◌/◌, ◌%◌, Bool, true, false, cond, not, ◌&&◌, List, [], ◌∷◌, ◌++◌, length, take, Some, None, Ok, Err, Option, Result, ◌==◌, nat_le, nat_lt}
use Rattle.keyed.specs.declared.record.Record.{Record}
use Rattle.keyed.specs.Keys.{holds}
use Rattle.keyed.specs.Records.{record_same}
use Rattle.afl.specs.declared.locator.AflFault.{AflFault}

-- an entry's four bytes: the file's SFI, 1 to 30, times 8; a first record that is not 0; a last not below it;
-- and a count not above the number of records
abbrev pub good : ℕ → ℕ → ℕ → ℕ → Bool
good f a z n = (f % 8 == 0 && (nat_le 8 f && nat_le f 240)) && (nat_lt 0 a && (nat_le a z && nat_le n (z - a + 1)))

abbrev pub record_at : ℕ → ℕ → Record
record_at s n = record { sfi = s; number = n }

-- so many records of a file, from the number n on
abbrev pub run : ℕ → ℕ → ℕ → List Record
run s n zero = []
run s n (suc k) = record_at s n ∷ run s (n + 1) k

-- whole entries, each of them good
abbrev pub well_made : List ℕ → Bool
well_made [] = true
well_made (f ∷ []) = false
well_made (f ∷ a ∷ []) = false
well_made (f ∷ a ∷ z ∷ []) = false
well_made (f ∷ a ∷ z ∷ n ∷ bs) = good f a z n && well_made bs

-- the records of the entries, in their order
abbrev pub named : List ℕ → List Record
named [] = []
named (f ∷ []) = []
named (f ∷ a ∷ []) = []
named (f ∷ a ∷ z ∷ []) = []
named (f ∷ a ∷ z ∷ n ∷ bs) = run (f / 8) a (z + 1 - a) ++ named bs

-- no record stands twice
abbrev pub distinct : List Record → Bool
distinct [] = true
distinct (r ∷ rs) = not (holds record_same rs r) && distinct rs

-- whole good entries that name at most 64 records, none twice
abbrev pub accepted : List ℕ → Bool
accepted bs = well_made bs && (nat_le (length (named bs)) 64 && distinct (named bs))

-- the records of an AFL; none if it breaks a rule
unfoldable pub records_of : List ℕ → Option (List Record)
records_of bs = cond (accepted bs) (Some (named bs)) None

-- how many there are, or the fault
abbrev pub counted : Option (List Record) → Result ℕ AflFault
counted None = Err (record {})
counted (Some rs) = Ok (length rs)

-- what an answer says of the array: so many of its records, from the front
abbrev pub front : Result ℕ AflFault → List Record → Option (List Record)
front (Ok n) mem = Some (take n mem)
front (Err e) mem = None
