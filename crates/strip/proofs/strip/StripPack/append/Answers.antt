use Rattle.std.proofs.Common.{◌+◌, length, refl, arith}
use Rattle.strip.specs.Kept.{sound_total, sound_count}
use Rattle.strip.proofs.Changes.{sound_push}
use Rattle.strip.proofs.strip.StripPack.append.Goals as goal

pub write_entry-requires : goal.write_entry-requires
write_entry-requires c =
    let s = c.args.self.now in
    let a = sound_count s.objects s.bytes s.count s.used s.area.now s.ok in
    let b = sound_total s.objects s.bytes s.count s.used s.area.now s.ok in
    (omega (arith, c.requires.room.0), omega (arith, s.ok.0, c.requires.room.0, c.requires.room.1, c.requires.room.2))

pub invariant_of-self : goal.invariant_of-self
invariant_of-self c =
    let s = c.args.self.now in
    let a = sound_count s.objects s.bytes s.count s.used s.area.now s.ok in
    let b = sound_total s.objects s.bytes s.count s.used s.area.now s.ok in
    let h = sound_push s.objects s.bytes s.count s.used s.area.now c.write_entry.new.area c.args.tag.value c.args.value.now
    (s.count + 1) (s.used + (5 + length c.args.value.now))
    s.ok c.requires.absent c.args.tag.ok c.requires.room.0 (omega (arith, c.requires.room.1)) (omega (arith, c.requires.room.2))
    c.write_entry.ensures c.write_entry.auto.area refl (omega arith) in
    record { ok = h.sound }

pub returns-clause-after : goal.returns-clause-after
returns-clause-after c =
    let s = c.args.self.now in
    let a = sound_count s.objects s.bytes s.count s.used s.area.now s.ok in
    let b = sound_total s.objects s.bytes s.count s.used s.area.now s.ok in
    let h = sound_push s.objects s.bytes s.count s.used s.area.now c.write_entry.new.area c.args.tag.value c.args.value.now
    (s.count + 1) (s.used + (5 + length c.args.value.now))
    s.ok c.requires.absent c.args.tag.ok c.requires.room.0 (omega (arith, c.requires.room.1)) (omega (arith, c.requires.room.2))
    c.write_entry.ensures c.write_entry.auto.area refl (omega arith) in
    h.map
