-- Laws of a strip: how many objects and value bytes its entries are, and that it keeps what every store keeps.
use Rattle.std.specs.Prelude.{◌≡◌, ℕ, zero, suc, ◌+◌, ◌*◌, true, List, [], ◌∷◌, length, take, drop, Some, refl}
use Rattle.std.proofs.Common.{◌∙◌, ap, arith}
use Rattle.std.proofs.lemmas.List.{length-take-le, length-append}
use Rattle.store.specs.Map.{Kept, size, count, total}
use Rattle.store.specs.Maps.{total_changed, total_empty}
use Rattle.entries.specs.Entries.{Entry, lookup, good}
use Rattle.entries.proofs.Laws.{good_parts, count_lookup, lookup_short, lookup_tags}
use Rattle.strip.specs.Strip.{entry_bytes, written, front_length, entries, Sound, contents}

pub length_entries : (n : ℕ) (bs : List ℕ) → length (entries n bs) ≡ n
length_entries zero bs = refl
length_entries (suc n) bs = ap suc (length_entries n (drop (5 + front_length bs) bs))

pub length_written : (es : List Entry) → good es ≡ true → length (written es) ≡ 5 * length es + total (lookup es)
length_written [] g = let a = total_empty in omega arith
length_written (e ∷ es) g =
    let p = good_parts e es g in
    let a = total_changed (lookup es) e.0 (Some e.1) p.tag in
    let b = ap size p.fresh in
    let c = length_written es p.rest in
    let d = length-append (entry_bytes e.0 e.1) (written es) in
    omega arith

-- what a sound strip holds
pub sound_total : (o b n u : ℕ) (a : List ℕ) → Sound o b n u a → u ≡ 5 * n + total (contents n u a)
sound_total o b n u a s =
    let es : List Entry = entries n (take u a) in
    let p = length-take-le u a s.3 in
    let q = ap length s.4.0 in
    let r = length_written es s.4.1 in
    let k = length_entries n (take u a) in
    omega arith

pub sound_count : (o b n u : ℕ) (a : List ℕ) → Sound o b n u a → count (contents n u a) ≡ n
sound_count o b n u a s = count_lookup (entries n (take u a)) s.4.1 ∙ length_entries n (take u a)

pub sound_kept : (o b n u : ℕ) (a : List ℕ) → Sound o b n u a → Kept (contents n u a) o b
sound_kept o b n u a s =
    let c = sound_count o b n u a s in
    let t = sound_total o b n u a s in
    record {
      tags = lookup_tags (entries n (take u a)) s.4.1;
      values = lookup_short (entries n (take u a)) s.4.1;
      few = omega (arith, s.1);
      small = omega (arith, s.2);
    }
