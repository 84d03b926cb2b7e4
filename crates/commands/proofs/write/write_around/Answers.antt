use Rattle.std.proofs.Common.{refl}
use Rattle.commands.proofs.Frames.{framed_is}
use Rattle.commands.proofs.write.write_around.Goals as goal

pub returns : goal.returns
returns g c = record {
  value = refl;
  after = framed_is (g.S.ReadStore.held c.args.store.now) c.args.header.now c.args.dol.now c.args.command.now c.copy_from_slice.new.self c.fill.new.out c.args.size c.requires.sized c.requires.room c.copy_from_slice.ensures.after c.fill.ensures.after;
}
