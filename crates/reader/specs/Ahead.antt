-- How many commands a phase can still lead to.
use Rattle.std.specs.Prelude.{ℕ, ◌+◌, ◌-◌}
use Rattle.reader.specs.declared.reader.Phase.{Phase}
use Rattle.reader.specs.declared.reader.Phase.TheVariants.{Ready, AwaitsOptions, AwaitsRecord, AwaitsCryptogram, Ended}

-- the record at `at` is awaited, of n: those behind it, and GENERATE AC
abbrev pub ahead : Phase → ℕ → ℕ → ℕ
ahead Ready at n = 0
ahead AwaitsOptions at n = 65
ahead AwaitsRecord at n = (n - (at + 1)) + 1
ahead (AwaitsCryptogram c) at n = 0
ahead (Ended o) at n = 0
