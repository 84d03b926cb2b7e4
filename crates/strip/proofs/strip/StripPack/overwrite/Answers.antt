use Rattle.std.proofs.Common.{◌≡◌, ℕ, ◌+◌, ◌-◌, List, length, take, Some, refl, ap, arith}
use borrow.Rule.Slice.PartMut.{put_mid}
use Rattle.std.specs.Option.{option_map}
use Rattle.std.proofs.lemmas.List.{length-take-le}
use Rattle.entries.proofs.Laws.{held_length, length_put_mid}
use Rattle.store.specs.Map.{changed}
use Rattle.strip.specs.Strip.{Sound, entries, contents}
use Rattle.strip.specs.Spot.{Spot}
use Rattle.strip.proofs.Changes.{Holds, sound_over}
use Rattle.strip.proofs.strip.StripPack.overwrite.Goals as goal

over : (o b n u : ℕ) (a ys : List ℕ) (t at l : ℕ) (w : List ℕ) → Sound o b n u a → option_map length (contents n u a t) ≡ Some (length w)
    → Spot (take u a) (entries n (take u a)) t at l → ys ≡ w
    → Holds o b n u (put_mid (at + 5) (at + 5 + l - (at + 5)) a ys) (changed (contents n u a) t (Some w))
over o b n u a ys t at l w s e k f =
    let same : l ≡ length w = let v = held_length (contents n u a t) (length w) e k.v k.here in omega (arith, k.long) in
    let room = k.room in
    let lu = length-take-le u a s.3 in
    let lw = ap length f in
    let long : length (put_mid (at + 5) (at + 5 + l - (at + 5)) a ys) ≡ length a =
    length_put_mid (at + 5) (at + 5 + l - (at + 5)) a ys (omega (arith, s.3)) (omega arith) in
    sound_over o b n u a (put_mid (at + 5) (at + 5 + l - (at + 5)) a ys) ys t at l (at + 5 + l - (at + 5)) w s k same (omega arith) f refl long

pub invariant_of-self : goal.invariant_of-self
invariant_of-self c =
    let s = c.args.self.now in
    let p = c.in-Some.place in
    record { ok = (over s.objects s.bytes s.count s.used s.area.now c.copy_from_slice.new.self c.args.tag.value p.at p.len c.args.value.now s.ok c.requires c.in-Some.ensures c.copy_from_slice.ensures.after).sound }

pub returns-in-Some-clause-after : goal.returns-in-Some-clause-after
returns-in-Some-clause-after c =
    let s = c.args.self.now in
    let p = c.in-Some.place in
    (over s.objects s.bytes s.count s.used s.area.now c.copy_from_slice.new.self c.args.tag.value p.at p.len c.args.value.now s.ok c.requires c.in-Some.ensures c.copy_from_slice.ensures.after).map
