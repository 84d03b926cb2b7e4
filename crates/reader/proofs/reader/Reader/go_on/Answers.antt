use Rattle.std.proofs.Common.{take, rules}
use Rattle.reader.proofs.reader.Reader.go_on.Goals as goal

pub returns-in-Ok-Record : goal.returns-in-Ok-Record
returns-in-Ok-Record g c = record { size = search rules; goes = λ roomy buffer. let e = c.await_next.ensures (take c.in-Ok-Record.command buffer) in search rules }
