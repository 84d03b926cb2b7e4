-- What the calls of a store answer, and what they leave.
use Rattle.std.specs.Prelude.{ℕ, ◌+◌, ◌-◌, Bool, cond, ◌||◌, List, ◌++◌, length, drop, Some, None, Ok, Err, Option, Result, nat_lt}
use Rattle.store.specs.declared.writing.Refused.{Refused}
use Rattle.store.specs.declared.writing.Refused.TheVariants.{TooLong, NoRoom}
use Rattle.store.specs.declared.reading.NotCopied.{NotCopied}
use Rattle.store.specs.declared.reading.NotCopied.TheVariants.{Missing, Short}
use Rattle.store.specs.Map.{Map, changed, count, total}

-- copying the held value o into a buffer of n bytes
abbrev pub copy_answer : Option (List ℕ) → ℕ → Result ℕ NotCopied
copy_answer None n = Err Missing
copy_answer (Some v) n = cond (nat_lt n (length v)) (Err Short) (Ok (length v))

-- what the buffer d holds after
abbrev pub copy_after : Option (List ℕ) → List ℕ → List ℕ
copy_after None d = d
copy_after (Some v) d = cond (nat_lt (length d) (length v)) d (v ++ drop (length v) d)

-- a map that passes a limit
abbrev pub passes : ℕ → ℕ → Map → Bool
passes objects bytes m = nat_lt objects (count m) || nat_lt bytes (total m)

-- putting v at t, under the limits
abbrev pub put_answer : ℕ → ℕ → Map → ℕ → List ℕ → Result (Unit {0}) Refused
put_answer objects bytes m t v =
    cond (nat_lt 255 (length v)) (Err TooLong) (cond (passes objects bytes (changed m t (Some v))) (Err NoRoom) (Ok tt))

-- what the map is after that answer
abbrev pub put_after : Result (Unit {0}) Refused → Map → ℕ → List ℕ → Map
put_after (Ok x) m t v = changed m t (Some v)
put_after (Err e) m t v = m

-- objects and value bytes after putting n bytes at a tag whose value has the length l, if any
abbrev pub count_after : ℕ → Option ℕ → ℕ
count_after c None = c + 1
count_after c (Some l) = c

abbrev pub total_after : ℕ → Option ℕ → ℕ → ℕ
total_after s None n = s + n
total_after s (Some l) n = s - l + n
