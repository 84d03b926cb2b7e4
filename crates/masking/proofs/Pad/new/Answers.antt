use Rattle.masking.proofs.Bytes.{masked_bytes}
use Rattle.masking.proofs.Pad.new.Goals as goal

pub returns-clause-masks : goal.returns-clause-masks
returns-clause-masks c = masked_bytes c.args.bytes
