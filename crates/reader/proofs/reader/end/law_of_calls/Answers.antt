use Rattle.run.proofs.Lawful.{lawful_roomy}
use Rattle.reader.proofs.reader.end.law_of_calls.Goals as goal

pub returns : goal.returns
returns c = λ b a call r d. lawful_roomy d
