use Rattle.std.proofs.Common.{sym}
use Rattle.store.specs.Maps.{total_empty}
use Rattle.judge.proofs.alone.NothingHeldReadStore.byte_total.Goals as goal

pub returns : goal.returns
returns c = sym total_empty
