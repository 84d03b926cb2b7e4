use Rattle.std.proofs.Common.{sym}
use Rattle.strip.specs.Kept.{sound_count}
use Rattle.strip.proofs.strip.StripReadStore.object_count.Goals as goal

pub returns : goal.returns
returns c =
    let s = c.args.self.now in sym (sound_count s.objects s.bytes s.count s.used s.area.now s.ok)
