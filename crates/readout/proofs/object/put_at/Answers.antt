use Rattle.std.proofs.Common.{◌+◌, ◌-◌, length, refl, arith}
use Rattle.readout.proofs.Written.{pasted_front, pasted_back}
use Rattle.readout.proofs.object.put_at.Goals as goal

pub returns : goal.returns
returns c =
    let a = c.args.at in
    let zs = c.args.bytes.now in
    record {
      front = pasted_front a (a + length zs - a) (a + length zs) c.args.out.now c.copy_from_slice.new.self zs c.copy_from_slice.ensures.after refl (omega arith) c.requires;
      back = pasted_back a (a + length zs - a) (a + length zs) c.args.out.now c.copy_from_slice.new.self zs c.copy_from_slice.ensures.after refl (omega arith) c.requires;
    }
