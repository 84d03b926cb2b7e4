use Rattle.std.proofs.Common.{◌≡◌, ℕ, ◌+◌, ◌-◌, ◌<◌, ◌≤◌, List, [], ◌∷◌, ◌++◌, length, take, set, None, Some, ap, ◌∙◌, arith}
use borrow.Rule.Slice.PartMut.{put_mid}
use Rattle.std.proofs.lemmas.List.{take_more_set, length-set}
use Rattle.std.proofs.lemmas.Slice.{take-put_mid}
use Rattle.store.specs.Map.{changed, count, total}
use Rattle.entries.proofs.Laws.{length_put_mid}
use Rattle.directory.specs.declared.slot.Slot.{Slot}
use Rattle.directory.specs.Directory.{slot, Ordered, filed_map}
use Rattle.directory.specs.Kept.{ordered_total, ordered_count}
use Rattle.directory.proofs.Changes.{Files, ordered_push}
use Rattle.directory.proofs.directory.DirectoryPack.append.Goals as goal

added : (n u : ℕ) (ss : List Slot) (vs ys : List ℕ) (t t' : ℕ) (v : List ℕ) → Ordered n u ss vs → filed_map n u ss vs t ≡ None → t < 16777216
    → length v ≤ 255 → count (filed_map n u ss vs) < length ss → total (filed_map n u ss vs) + length v ≤ length vs → t' ≡ t → ys ≡ v
    → Files (n + 1) (u + length v) (set ss n (slot t' (length v))) (put_mid u (u + length v - u) vs ys) (changed (filed_map n u ss vs) t (Some v))
added n u ss vs ys t t' v o none tag short few room et ey =
    let a = ordered_count n u ss vs o in
    let b = ordered_total n u ss vs o in
    let z : ℕ = length v in
    let less : n < length ss = omega arith in
    let ly : length ys ≡ z = ap length ey in
    let ls : length (set ss n (slot t' z)) ≡ length ss = length-set ss n (slot t' z) in
    let lv : length (put_mid u (u + z - u) vs ys) ≡ length vs = length_put_mid u (u + z - u) vs ys (omega arith) (omega arith) in
    let slots : take (n + 1) (set ss n (slot t' z)) ≡ take n ss ++ slot t z ∷ [] =
    take_more_set ss n (slot t' z) less ∙ ap (λ x. take n ss ++ slot x z ∷ []) et in
    let values : take (u + z) (put_mid u (u + z - u) vs ys) ≡ take u vs ++ v =
    take-put_mid u (u + z - u) vs ys (u + z) (omega arith) (omega arith) ∙ ap (λ xs. take u vs ++ xs) ey in
    ordered_push n u ss (set ss n (slot t' z)) vs (put_mid u (u + z - u) vs ys) t v (n + 1) (u + z) o none tag short slots values
    (omega arith) (omega arith)

pub bounds-self-self : goal.bounds-self-self
bounds-self-self c =
    let s = c.args.self.now in
    omega (arith, ordered_count s.count s.used s.slots.now s.values.now s.ok, c.requires.room.1)

pub slice_bounds-copy_from_slice-end : goal.slice_bounds-copy_from_slice-end
slice_bounds-copy_from_slice-end c =
    let s = c.args.self.now in
    let h : s.used + length c.args.value.now ≤ length s.values.now = omega (arith, ordered_total s.count s.used s.slots.now s.values.now s.ok, c.requires.room.2) in
    h

pub invariant_of-self-2 : goal.invariant_of-self-2
invariant_of-self-2 c =
    let s = c.args.self.now in
    record {
      ok = (added s.count s.used s.slots.now s.values.now c.copy_from_slice.new.self c.args.tag.value c.number.result c.args.value.now
          s.ok c.requires.absent c.args.tag.ok c.requires.room.0 c.requires.room.1 c.requires.room.2 c.number.ensures c.copy_from_slice.ensures.after).sound;
    }

pub returns-clause-after : goal.returns-clause-after
returns-clause-after c =
    let s = c.args.self.now in
    (added s.count s.used s.slots.now s.values.now c.copy_from_slice.new.self c.args.tag.value c.number.result c.args.value.now
    s.ok c.requires.absent c.args.tag.ok c.requires.room.0 c.requires.room.1 c.requires.room.2 c.number.ensures c.copy_from_slice.ensures.after).map
