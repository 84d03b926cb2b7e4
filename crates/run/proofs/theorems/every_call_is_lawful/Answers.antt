use Rattle.run.proofs.Whole.{every_call, unchanged}
use Rattle.run.proofs.theorems.every_call_is_lawful.Goals as goal

pub returns : goal.returns
returns c = record { lawful = every_call; unchanged = unchanged }
