use Rattle.std.proofs.Common.{arith}
use Rattle.stages.proofs.record.after_record.Goals as goal

pub returns-then-is_empty-clause-course : goal.returns-then-is_empty-clause-course
returns-then-is_empty-clause-course g c = λ wide s roomy brought. c.after_last.ensures.course wide s roomy c.args.left.now (grind arith) brought
