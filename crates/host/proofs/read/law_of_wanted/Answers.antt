use Rattle.host.proofs.Telling.{law_of_wanted_lem}
use Rattle.host.proofs.read.law_of_wanted.Goals as goal

pub returns : goal.returns
returns c = law_of_wanted_lem
