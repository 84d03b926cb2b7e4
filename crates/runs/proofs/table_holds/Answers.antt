use Rattle.runs.proofs.Tables.{worked}
use Rattle.runs.proofs.table_holds.Goals as goal

pub returns : goal.returns
returns c = worked
