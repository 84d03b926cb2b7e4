use Rattle.std.proofs.Common.{refl}
use Rattle.directory.proofs.Slots.{place_cases}
use Rattle.directory.proofs.directory.Directory.place.Goals as goal

pub returns : goal.returns
returns c =
    let s = c.args.self.now in
    place_cases s.count s.count s.used s.slots.now s.values.now c.args.tag.value c.find_slot.result refl s.ok c.find_slot.ensures
