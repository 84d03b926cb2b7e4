use Rattle.std.proofs.Common.{◌-◌, refl}
use Rattle.directory.proofs.Changes.{ordered_cut}
use Rattle.directory.proofs.directory.DirectoryPack.take_out.Goals as goal

pub invariant_of-self : goal.invariant_of-self
invariant_of-self c =
    let s = c.args.self.now in
    let p = c.in-Some.place in
    let h = ordered_cut s.count s.used s.slots.now c.copy_within.new.self s.values.now c.copy_within-2.new.self c.args.tag.value p.index p.start p.size
    (s.count - 1) (s.used - p.size) s.ok c.in-Some.ensures.slot c.copy_within.ensures.len c.copy_within-2.ensures.len
    c.copy_within.ensures.after c.copy_within-2.ensures.after refl refl in
    record { ok = h.sound }

pub returns-clause-after : goal.returns-clause-after
returns-clause-after c =
    let s = c.args.self.now in
    let p = c.in-Some.place in
    let h = ordered_cut s.count s.used s.slots.now c.copy_within.new.self s.values.now c.copy_within-2.new.self c.args.tag.value p.index p.start p.size
    (s.count - 1) (s.used - p.size) s.ok c.in-Some.ensures.slot c.copy_within.ensures.len c.copy_within-2.ensures.len
    c.copy_within.ensures.after c.copy_within-2.ensures.after refl refl in
    h.map
