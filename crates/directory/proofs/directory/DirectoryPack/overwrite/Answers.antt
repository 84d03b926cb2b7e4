use Rattle.std.proofs.Common.{◌≡◌, ℕ, ◌+◌, ◌-◌, List, length, take, drop, Some, refl, ap, arith}
use borrow.Rule.Slice.PartMut.{put_mid}
use Rattle.std.specs.Option.{option_map}
use Rattle.entries.proofs.Laws.{held_length, length_put_mid}
use Rattle.store.specs.Map.{changed}
use Rattle.directory.specs.declared.slot.Slot.{Slot}
use Rattle.directory.specs.Directory.{Ordered, filed_map}
use Rattle.directory.specs.Found.{Found}
use Rattle.directory.proofs.Changes.{Files, ordered_over}
use Rattle.directory.proofs.directory.DirectoryPack.overwrite.Goals as goal

over : (n u : ℕ) (ss : List Slot) (vs ys : List ℕ) (t i at z : ℕ) (w : List ℕ) → Ordered n u ss vs → option_map length (filed_map n u ss vs t) ≡ Some (length w)
    → Found n u ss vs t i at z → ys ≡ w → Files n u ss (put_mid at (at + z - at) vs ys) (changed (filed_map n u ss vs) t (Some w))
over n u ss vs ys t i at z w o e k f =
    let same : length (take z (drop at vs)) ≡ length w = held_length (filed_map n u ss vs t) (length w) e (take z (drop at vs)) k.here in
    let lw = ap length f in
    let long : length (put_mid at (at + z - at) vs ys) ≡ length vs =
    length_put_mid at (at + z - at) vs ys (omega (arith, k.inside, k.long)) (omega (arith, k.long)) in
    ordered_over n u ss vs (put_mid at (at + z - at) vs ys) ys t i at z (at + z - at) w o k.slot (omega (arith, k.long)) (omega arith) f refl long

pub invariant_of-self : goal.invariant_of-self
invariant_of-self c =
    let s = c.args.self.now in
    let p = c.in-Some.place in
    record { ok = (over s.count s.used s.slots.now s.values.now c.copy_from_slice.new.self c.args.tag.value p.index p.start p.size c.args.value.now s.ok c.requires c.in-Some.ensures c.copy_from_slice.ensures.after).sound }

pub returns-in-Some-clause-after : goal.returns-in-Some-clause-after
returns-in-Some-clause-after c =
    let s = c.args.self.now in
    let p = c.in-Some.place in
    (over s.count s.used s.slots.now s.values.now c.copy_from_slice.new.self c.args.tag.value p.index p.start p.size c.args.value.now s.ok c.requires c.in-Some.ensures c.copy_from_slice.ensures.after).map
