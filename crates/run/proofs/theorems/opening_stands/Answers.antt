use Rattle.run.proofs.Whole.{opens, unopened}
use Rattle.run.proofs.theorems.opening_stands.Goals as goal

pub returns : goal.returns
returns c = record { stands = opens; unchanged = unopened }
