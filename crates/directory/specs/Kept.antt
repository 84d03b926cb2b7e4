-- Laws of a directory: how many objects and value bytes it holds, and that it keeps what every store keeps.
use Rattle.std.specs.Prelude.{◌≡◌, ℕ, suc, ◌≤◌, true, List, [], ◌∷◌, length, take, drop, Some, refl}
use Rattle.std.proofs.Common.{◌∙◌, ap, arith}
use Rattle.std.proofs.lemmas.List.{length-take-le, length-drop}
use Rattle.directory.specs.declared.slot.Slot.{Slot}
use Rattle.store.specs.Map.{Kept, size, count, total}
use Rattle.store.specs.Maps.{total_changed, total_empty}
use Rattle.entries.specs.Entries.{lookup, good}
use Rattle.entries.proofs.Laws.{good_parts, count_lookup, lookup_short, lookup_tags}
use Rattle.directory.specs.Directory.{sizes, cut, Ordered, filed_map}

pub length_cut : (ss : List Slot) (vs : List ℕ) → length (cut ss vs) ≡ length ss
length_cut [] vs = refl
length_cut (s ∷ ss) vs = ap suc (length_cut ss (drop s.size vs))

pub total_cut : (ss : List Slot) (vs : List ℕ) → sizes ss ≤ length vs → good (cut ss vs) ≡ true → total (lookup (cut ss vs)) ≡ sizes ss
total_cut [] vs l g = total_empty
total_cut (s ∷ ss) vs l g =
    let p = good_parts (s.tag, take s.size vs) (cut ss (drop s.size vs)) g in
    let n : length (take s.size vs) ≡ s.size = length-take-le s.size vs (omega arith) in
    let d = length-drop s.size vs in
    let r = total_cut ss (drop s.size vs) (omega arith) p.rest in
    let a = total_changed (lookup (cut ss (drop s.size vs))) s.tag (Some (take s.size vs)) p.tag in
    let b = ap size p.fresh in
    omega arith

pub ordered_total : (n u : ℕ) (ss : List Slot) (vs : List ℕ) → Ordered n u ss vs → total (filed_map n u ss vs) ≡ u
ordered_total n u ss vs o =
    let l = length-take-le u vs o.1 in
    total_cut (take n ss) (take u vs) (omega (arith, o.2.0)) o.2.1 ∙ o.2.0 ∙ l

pub ordered_count : (n u : ℕ) (ss : List Slot) (vs : List ℕ) → Ordered n u ss vs → count (filed_map n u ss vs) ≡ n
ordered_count n u ss vs o = count_lookup (cut (take n ss) (take u vs)) o.2.1 ∙ length_cut (take n ss) (take u vs) ∙ length-take-le n ss o.0

pub ordered_kept : (n u : ℕ) (ss : List Slot) (vs : List ℕ) → Ordered n u ss vs → Kept (filed_map n u ss vs) (length ss) (length vs)
ordered_kept n u ss vs o =
    let a = ordered_count n u ss vs o in
    let b = ordered_total n u ss vs o in
    record {
      tags = lookup_tags (cut (take n ss) (take u vs)) o.2.1;
      values = lookup_short (cut (take n ss) (take u vs)) o.2.1;
      few = omega (arith, o.0);
      small = omega (arith, o.1);
    }
