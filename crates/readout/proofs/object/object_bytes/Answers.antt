use Rattle.std.proofs.Common.{length, arith}
use Rattle.readout.proofs.Written.{put_bytes}
use Rattle.readout.proofs.object.object_bytes.Goals as goal

pub returns-clause-value : goal.returns-clause-value
returns-clause-value c =
    put_bytes c.args.tag (length c.args.room.now) c.args.value.now c.requires (omega (arith, c.fits-room)) c.unwrap_or-n.result c.write_object.result c.args.room.now c.write_object.new.out c.write_object.ensures.answer c.write_object.ensures.after c.unwrap_or-n.ensures
