-- What the answer of a stage means as a course of the run.
use Rattle.std.specs.Prelude.{◌≡◌, ℕ, ◌<◌, ◌≤◌, List, [], ◌∷◌, take, Ok, Err, Result}
use Rattle.keyed.specs.declared.record.Record.{Record as File}
use Rattle.store.specs.Map.{Map}
use Rattle.run.specs.declared.fault.Cause.{Cause}
use Rattle.run.specs.State.{Phase, ready, awaits_options, awaits_record, awaits_cryptogram}
use Rattle.run.specs.Run.{Course, hands_out, fails, comes_to}
use Rattle.stages.specs.declared.next.Next.{Next}
use Rattle.stages.specs.declared.next.Next.TheVariants.{Options, Record, Cryptogram, End}

-- of the records to be read the first is awaited
abbrev pub awaiting : List File → Phase
awaiting [] = ready
awaiting (r ∷ rs) = awaits_record r rs

-- A cause ends the run; a command is what the front of the buffer has; the records are those left to be read; and `held`
-- is what the store holds then.
abbrev pub course_of : Result Next Cause → List ℕ → List File → Map → Course
course_of (Err c) buffer records held = fails c held
course_of (Ok (Options n)) buffer records held = hands_out (take n buffer) awaits_options held
course_of (Ok (Record n left)) buffer records held = hands_out (take n buffer) (awaiting (take left records)) held
course_of (Ok (Cryptogram n requested)) buffer records held = hands_out (take n buffer) (awaits_cryptogram requested) held
course_of (Ok (End o)) buffer records held = comes_to o held

-- how many bytes of the buffer the command has; none where there is no command
abbrev pub command_length : Result Next Cause → ℕ
command_length (Err c) = 0
command_length (Ok (Options n)) = n
command_length (Ok (Record n left)) = n
command_length (Ok (Cryptogram n requested)) = n
command_length (Ok (End o)) = 0

-- the same of a command by itself, with the phase that awaits its answer
abbrev pub handed : Result ℕ Cause → List ℕ → Phase → Map → Course
handed (Err c) buffer phase held = fails c held
handed (Ok n) buffer phase held = hands_out (take n buffer) phase held

abbrev pub length_of : Result ℕ Cause → ℕ
length_of (Err c) = 0
length_of (Ok n) = n

-- What the stages may lead to: GET PROCESSING OPTIONS only; READ RECORD for the first of 1 to 64 records; READ RECORD for
-- the first of k records, or GENERATE AC; the end.
abbrev pub IsOptions : Next → Type 0
IsOptions (Options n) = Unit {0}
IsOptions (Record n left) = ⊥
IsOptions (Cryptogram n requested) = ⊥
IsOptions (End o) = ⊥

abbrev pub IsFirst : Next → Type 0
IsFirst (Options n) = ⊥
IsFirst (Record n left) = (0 < left) × (left ≤ 64)
IsFirst (Cryptogram n requested) = ⊥
IsFirst (End o) = ⊥

abbrev pub IsRecord : ℕ → Next → Type 0
IsRecord k (Options n) = ⊥
IsRecord k (Record n left) = left ≡ k
IsRecord k (Cryptogram n requested) = ⊥
IsRecord k (End o) = ⊥

abbrev pub IsOnward : ℕ → Next → Type 0
IsOnward k (Options n) = ⊥
IsOnward k (Record n left) = (left ≡ k) × (0 < k)
IsOnward k (Cryptogram n requested) = Unit {0}
IsOnward k (End o) = ⊥

abbrev pub IsEnd : Next → Type 0
IsEnd (Options n) = ⊥
IsEnd (Record n left) = ⊥
IsEnd (Cryptogram n requested) = ⊥
IsEnd (End o) = Unit {0}
