use Rattle.std.proofs.Common.{sym}
use Rattle.store.specs.Maps.{count_empty}
use Rattle.judge.proofs.alone.NothingHeldReadStore.object_count.Goals as goal

pub returns : goal.returns
returns c = sym count_empty
