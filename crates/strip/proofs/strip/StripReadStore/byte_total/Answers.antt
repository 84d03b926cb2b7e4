use Rattle.std.proofs.Common.{arith}
use Rattle.strip.specs.Kept.{sound_total}
use Rattle.strip.proofs.strip.StripReadStore.byte_total.Goals as goal

pub overflow_sub-result : goal.overflow_sub-result
overflow_sub-result c =
    let s = c.args.self.now in omega (arith, sound_total s.objects s.bytes s.count s.used s.area.now s.ok)

pub returns : goal.returns
returns c =
    let s = c.args.self.now in omega (arith, sound_total s.objects s.bytes s.count s.used s.area.now s.ok)
