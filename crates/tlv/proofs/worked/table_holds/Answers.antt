use Rattle.tlv.proofs.Tables.{worked}
use Rattle.tlv.proofs.worked.table_holds.Goals as goal

pub returns : goal.returns
returns c = worked
