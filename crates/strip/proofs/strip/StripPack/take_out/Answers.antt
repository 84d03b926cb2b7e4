use Rattle.std.proofs.Common.{◌+◌, ◌-◌, refl}
use Rattle.strip.proofs.Changes.{sound_cut}
use Rattle.strip.proofs.strip.StripPack.take_out.Goals as goal

pub invariant_of-self : goal.invariant_of-self
invariant_of-self c =
    let s = c.args.self.now in
    let p = c.in-Some.place in
    let h = sound_cut s.objects s.bytes s.count s.used s.area.now c.copy_within.new.self c.args.tag.value p.at p.len
    (5 + p.len) (s.count - 1) (s.used - (5 + p.len)) (s.used - (p.at + (5 + p.len)))
    s.ok c.in-Some.ensures refl c.copy_within.ensures.len c.copy_within.ensures.after refl refl refl in
    record { ok = h.sound }

pub returns-clause-after : goal.returns-clause-after
returns-clause-after c =
    let s = c.args.self.now in
    let p = c.in-Some.place in
    let h = sound_cut s.objects s.bytes s.count s.used s.area.now c.copy_within.new.self c.args.tag.value p.at p.len
    (5 + p.len) (s.count - 1) (s.used - (5 + p.len)) (s.used - (p.at + (5 + p.len)))
    s.ok c.in-Some.ensures refl c.copy_within.ensures.len c.copy_within.ensures.after refl refl refl in
    h.map
