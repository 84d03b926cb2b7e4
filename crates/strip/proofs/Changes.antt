-- What becomes of a strip when an entry is cut out or added.
use Rattle.std.proofs.Common.{◌≡◌, ℕ, ◌+◌, ◌-◌, ◌*◌, ◌/◌, ◌%◌, ◌<◌, ◌≤◌, true, List, [], ◌∷◌, ◌++◌, length, take, drop, Some, None, sym, refl, ap, ◌∙◌, arith}
use lib.Seq.{paste}
use borrow.Rule.Slice.PartMut.{put_mid}
use Rattle.std.proofs.lemmas.List.{append_assoc, append-nil, length-append, take_at, length-take-le}
use Rattle.std.proofs.lemmas.List.Edits.{paste-paste, paste_all}
use Rattle.std.proofs.lemmas.Slice.{put_mid-paste}
use Rattle.store.specs.Map.{Map, changed}
use Rattle.entries.specs.Entries.{Entry, lookup, good}
use Rattle.entries.proofs.Laws.{good_parts, good_drop, cut_out, push_on, replace, closed_up, written_over}
use Rattle.strip.specs.Strip.{entry_bytes, written, entries, Sound, contents}
use Rattle.strip.specs.Spot.{Spot}
use Rattle.strip.specs.Kept.{sound_total, length_entries}
use Rattle.strip.proofs.Walks.{written_append, entries_written, length_entry}

-- h written at a place, and v right behind it
pub two_parts : (xs hs vs h v : List ℕ) (at n k l : ℕ) → hs ≡ h → vs ≡ v → n ≡ length h → n ≡ k → length v ≡ l
    → at + n + length v ≤ length xs
    → put_mid (at + n) l (put_mid at k xs hs) vs ≡ take at xs ++ (h ++ (v ++ drop (at + n + length v) xs))
two_parts xs hs vs h v at n k l a b c d e room =
    let p = put_mid-paste at k xs hs h n a d c in
    let q = put_mid-paste (at + n) l (paste xs at h n) vs v (length v) b e refl in
    let r = paste-paste xs at h v n (length v) c refl (omega arith) in
    let s = paste_all xs at (h ++ v) (n + length v) (omega (arith, length-append h v)) in
    let j : at + (n + length v) ≡ at + n + length v = omega arith in
    ap (λ ys. put_mid (at + n) l ys vs) p ∙ q ∙ r ∙ s
    ∙ ap (λ ys. take at xs ++ ys) (append_assoc h v (drop (at + (n + length v)) xs))
    ∙ ap (λ m. take at xs ++ (h ++ (v ++ drop m xs))) j

-- a strip is sound if its bytes are good entries
pub record Holds (o b n u : ℕ) (a : List ℕ) (m : Map) : Type 0 where
  pub sound : Sound o b n u a
  pub map : contents n u a ≡ m

pub sound_from : (o b n u : ℕ) (a : List ℕ) (es : List Entry) → 5 * o + b ≤ length a → n ≤ o → u ≤ 5 * n + b → u ≤ length a
    → length es ≡ n → take u a ≡ written es → good es ≡ true → Holds o b n u a (lookup es)
sound_from o b n u a es h1 h2 h3 h4 k w g =
    let e : entries n (take u a) ≡ es =
    ap (λ j. entries j (take u a)) (sym k) ∙ ap (entries (length es)) (w ∙ sym (append-nil (written es))) ∙ entries_written es [] g in
    record { sound = (h1, h2, h3, h4, (w ∙ ap written (sym e), ap good e ∙ g)); map = ap lookup e }

-- an entry cut out: ys is the area after what lies behind it is copied down
pub sound_cut : (o b n u : ℕ) (a ys : List ℕ) (t at l z n' u' k : ℕ) → Sound o b n u a → Spot (take u a) (entries n (take u a)) t at l
    → z ≡ 5 + l → length ys ≡ length a → ys ≡ paste a at (drop (at + z) a) k → k ≡ u - (at + z)
    → n' ≡ n - 1 → u' ≡ u - z → Holds o b n' u' ys (changed (contents n u a) t None)
sound_cut o b n u a ys t at l z n' u' k s p size same moved dk dn du =
    let pre = p.pre in
    let v = p.v in
    let post = p.post in
    let lc = length_entry t v in
    let lv = p.long in
    let w : take u' ys ≡ written (pre ++ post) =
    closed_up a ys (written pre) (entry_bytes t v) (written post) u at z u' k s.3 p.text p.place (omega arith) moved dk du
    ∙ sym (written_append pre post) in
    let room = p.room in
    let lu = length-take-le u a s.3 in
    let c = cut_out pre t v post (ap good (sym p.split) ∙ s.4.1) in
    let ln = length_entries n (take u a) in
    let ls = ap length p.split in
    let l1 = length-append pre ((t, v) ∷ post) in
    let l2 = length-append pre post in
    let tot = sound_total o b n u a s in
    let h = sound_from o b n' u' ys (pre ++ post) (omega (arith, s.0)) (omega (arith, s.1)) (omega (arith, s.2)) (omega (arith, s.3))
    (omega arith) w c.fine in
    record { sound = h.sound; map = h.map ∙ c.cut ∙ ap (λ xs. changed (lookup xs) t None) (sym p.split) }

-- an entry added behind the others
pub sound_push : (o b n u : ℕ) (a ys : List ℕ) (t : ℕ) (v : List ℕ) (n' u' : ℕ) → Sound o b n u a → contents n u a t ≡ None
    → t < 16777216 → length v ≤ 255 → n < o → u + length v ≤ 5 * n + b
    → ys ≡ take u a ++ (entry_bytes t v ++ drop (u + 5 + length v) a) → length ys ≡ length a
    → n' ≡ n + 1 → u' ≡ u + 5 + length v → Holds o b n' u' ys (changed (contents n u a) t (Some v))
sound_push o b n u a ys t v n' u' s none tag short few room w same dn du =
    let es : List Entry = entries n (take u a) in
    let p = push_on es t v s.4.1 none tag short in
    let lu = length-take-le u a s.3 in
    let lc = length_entry t v in
    let la = length-append (take u a) (entry_bytes t v) in
    let text : take u' ys ≡ written (es ++ (t, v) ∷ []) =
    ap (take u') (w ∙ sym (append_assoc (take u a) (entry_bytes t v) (drop (u + 5 + length v) a)))
    ∙ take_at (take u a ++ entry_bytes t v) (drop (u + 5 + length v) a) u' (omega arith)
    ∙ ap (λ xs. xs ++ entry_bytes t v) s.4.0
    ∙ ap (λ xs. written es ++ xs) (sym (append-nil (entry_bytes t v)))
    ∙ sym (written_append es ((t, v) ∷ [])) in
    let ln = length_entries n (take u a) in
    let l1 = length-append es ((t, v) ∷ []) in
    let h = sound_from o b n' u' ys (es ++ (t, v) ∷ []) (omega (arith, s.0)) (omega arith) (omega arith) (omega (arith, s.0))
    (omega arith) text p.fine in
    record { sound = h.sound; map = h.map ∙ p.map }

-- a value written over one of the same length
pub sound_over : (o b n u : ℕ) (a ys zs : List ℕ) (t at l k : ℕ) (w : List ℕ) → Sound o b n u a → Spot (take u a) (entries n (take u a)) t at l
    → l ≡ length w → k ≡ length w → zs ≡ w → ys ≡ put_mid (at + 5) k a zs → length ys ≡ length a → Holds o b n u ys (changed (contents n u a) t (Some w))
sound_over o b n u a ys zs t at l k w s p size dk ez moved long =
    let pre = p.pre in
    let v = p.v in
    let same : length v ≡ length w = p.long ∙ size in
    let post = p.post in
    let head : List ℕ → List ℕ = λ x. t / 65536 % 256 ∷ t / 256 % 256 ∷ t % 256 ∷ length x / 256 % 256 ∷ length x % 256 ∷ [] in
    let text : take u a ≡ (written pre ++ head v) ++ (v ++ written post) = p.text ∙ sym (append_assoc (written pre) (head v) (v ++ written post)) in
    let place = p.place in
    let lp = length-append (written pre) (head v) in
    let heads : head v ≡ head w = ap (λ j. t / 65536 % 256 ∷ t / 256 % 256 ∷ t % 256 ∷ j / 256 % 256 ∷ j % 256 ∷ []) same in
    let over : take u ys ≡ (written pre ++ head v) ++ (w ++ written post) =
    written_over a ys zs (written pre ++ head v) v w (written post) u (at + 5) k s.3 text (omega arith) (omega arith) (sym same) ez moved in
    let new : take u ys ≡ written (pre ++ (t, w) ∷ post) =
    over ∙ ap (λ x. (written pre ++ x) ++ (w ++ written post)) heads ∙ append_assoc (written pre) (head w) (w ++ written post)
    ∙ sym (written_append pre ((t, w) ∷ post)) in
    let g : good (pre ++ (t, v) ∷ post) ≡ true = ap good (sym p.split) ∙ s.4.1 in
    let q = good_parts (t, v) post (good_drop pre ((t, v) ∷ post) g) in
    let r = replace pre t v w post g (omega (arith, q.short)) in
    let ln = length_entries n (take u a) in
    let ls = ap length p.split in
    let l1 = length-append pre ((t, v) ∷ post) in
    let l2 = length-append pre ((t, w) ∷ post) in
    let h = sound_from o b n u ys (pre ++ (t, w) ∷ post) (omega (arith, s.0)) s.1 s.2 (omega (arith, s.3)) (omega arith) new r.fine in
    record { sound = h.sound; map = h.map ∙ r.map ∙ ap (λ xs. changed (lookup xs) t (Some w)) (sym p.split) }
