-- What building a command answers, and what it leaves in the command buffer.
use Rattle.std.specs.Prelude.{ℕ, ◌+◌, cond, List, [], ◌∷◌, ◌++◌, length, drop, Some, None, Ok, Err, Option, Result, nat_lt}
use Rattle.commands.specs.declared.instruction.CommandFault.{CommandFault}
use Rattle.commands.specs.declared.instruction.CommandFault.TheVariants.{ShortBuffer}

-- a buffer of fewer than 261 bytes is refused before anything else
abbrev pub roomy : ℕ → Result (List ℕ) CommandFault → Result (List ℕ) CommandFault
roomy n command = cond (nat_lt n 261) (Err ShortBuffer) command

-- how many bytes were written, or why none were
abbrev pub told : Result (List ℕ) CommandFault → Result ℕ CommandFault
told (Ok bs) = Ok (length bs)
told (Err e) = Err e

-- the command fills the buffer's front and the rest is unchanged; where there is none, nothing is written
abbrev pub written : Result (List ℕ) CommandFault → List ℕ → List ℕ
written (Ok bs) buf = bs ++ drop (length bs) buf
written (Err e) buf = buf

-- a buffer with a header, some data and '00' in front
abbrev pub framed : List ℕ → Option (List ℕ) → List ℕ → List ℕ
framed header None buf = buf
framed header (Some ds) buf = (header ++ (ds ++ 0 ∷ [])) ++ drop (length header + length ds + 1) buf
