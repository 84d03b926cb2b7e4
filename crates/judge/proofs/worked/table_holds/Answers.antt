use Rattle.judge.proofs.Tables.{worked}
use Rattle.judge.proofs.worked.table_holds.Goals as goal

pub returns : goal.returns
returns c = worked
