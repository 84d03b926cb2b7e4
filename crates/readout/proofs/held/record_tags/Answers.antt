use Rattle.std.proofs.Common.{refl, arith}
use Rattle.readout.specs.Output.{record_tags}
use Rattle.readout.proofs.Written.{by_test}
use Rattle.readout.proofs.held.record_tags.Goals as goal

pub returns : goal.returns
unfolding record_tags
returns c = record { tags = refl; few = omega arith; whole = by_test record_tags refl }
