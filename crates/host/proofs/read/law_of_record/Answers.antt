use Rattle.host.proofs.Telling.{law_of_record_lem}
use Rattle.host.proofs.read.law_of_record.Goals as goal

pub returns : goal.returns
returns c = law_of_record_lem
