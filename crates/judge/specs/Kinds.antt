-- Whose objects each kind of text may have.
use Rattle.std.specs.Prelude.{Bool, true, false, ◌&&◌}
use Rattle.dictionary.specs.declared.entry.Writer.{Writer}
use Rattle.judge.specs.declared.kind.TextKind.{TextKind}
use Rattle.judge.specs.declared.kind.TextKind.TheVariants.{Configuration, TerminalWrite, CardAnswer}
use Rattle.judge.specs.Writers.{by_writer}

-- whose objects may stand in such a text
abbrev pub writes : TextKind → Writer → Bool
writes Configuration w = by_writer true false false false false w
writes (TerminalWrite begun) w = by_writer false true true false false w
writes CardAnswer w = by_writer false false false true false w

-- whose objects come too late in it: those that the terminal writes before begin only, after begin
abbrev pub late : TextKind → Writer → Bool
late Configuration w = false
late (TerminalWrite begun) w = begun && by_writer false true false false false w
late CardAnswer w = false

-- the configuration's and the terminal's texts are our own
abbrev pub own : TextKind → Bool
own Configuration = true
own (TerminalWrite begun) = true
own CardAnswer = false
