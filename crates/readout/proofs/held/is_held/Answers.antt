use Rattle.std.proofs.Common.{[], ◌∷◌}
use Rattle.readout.specs.declared.object.Absent.TheVariants.{LeftOut}
use Rattle.readout.specs.Shown.{shown}
use Rattle.readout.proofs.Written.{some_of, only_at}
use Rattle.readout.proofs.held.is_held.Goals as goal

pub returns : goal.returns
returns g c = record {
  value = some_of (shown LeftOut c.args.tag (g.S.ReadStore.held c.args.store.now c.args.tag)) c.size_of.result c.size_of.ensures.value;
  only = only_at LeftOut (c.args.tag ∷ []);
}
