-- What becomes of a directory when an object is cut out, added or written over.
use Rattle.std.proofs.Common.{◌≡◌, ℕ, ◌+◌, ◌-◌, ◌<◌, ◌≤◌, true, List, [], ◌∷◌, ◌++◌, length, take, drop, Some, None, sym, refl, ap, ◌∙◌, arith}
use lib.Seq.{paste}
use borrow.Rule.Slice.PartMut.{put_mid}
use Rattle.std.proofs.lemmas.List.{length-append, length-take-le, length-drop, take-append-drop, drop-drop, take_all}
use Rattle.directory.specs.declared.slot.Slot.{Slot}
use Rattle.store.specs.Map.{Map, changed}
use Rattle.entries.specs.Entries.{Entry, lookup, good}
use Rattle.entries.proofs.Laws.{good_parts, good_drop, cut_out, push_on, replace, closed_up, written_over}
use Rattle.directory.specs.Directory.{slot, sizes, cut, Ordered, filed_map}
use Rattle.directory.specs.Found.{At}
use Rattle.directory.proofs.Slots.{sizes_append, cut_append, cut_at}

pub record Files (n u : ℕ) (ss : List Slot) (vs : List ℕ) (m : Map) : Type 0 where
  pub sound : Ordered n u ss vs
  pub map : filed_map n u ss vs ≡ m

pub ordered_cut : (n u : ℕ) (ss ss' : List Slot) (vs vs' : List ℕ) (t i at z n' u' : ℕ) → Ordered n u ss vs → At (take n ss) t i at z
    → length ss' ≡ length ss → length vs' ≡ length vs
    → ss' ≡ paste ss i (drop (i + 1) ss) (n - (i + 1)) → vs' ≡ paste vs at (drop (at + z) vs) (u - (at + z))
    → n' ≡ n - 1 → u' ≡ u - z → Files n' u' ss' vs' (changed (filed_map n u ss vs) t None)
ordered_cut n u ss ss' vs vs' t i at z n' u' o k ls lv ms mv dn du =
    let pre = k.pre in
    let post = k.post in
    let bs : List ℕ = take u vs in
    let lu : length bs ≡ u = length-take-le u vs o.1 in
    let f0 : sizes (pre ++ slot t z ∷ post) ≡ length bs = ap sizes (sym k.split) ∙ o.2.0 in
    let sa = sizes_append pre (slot t z ∷ post) in
    let sb = sizes_append pre post in
    let ks = k.start in
    let A : List ℕ = take at bs in
    let v : List ℕ = take z (drop at bs) in
    let B : List ℕ = drop (at + z) bs in
    let lA : length A ≡ at = length-take-le at bs (omega arith) in
    let ld : length (drop at bs) ≡ length bs - at = length-drop at bs in
    let lB : length B ≡ length bs - (at + z) = length-drop (at + z) bs in
    let lw : length v ≡ z = length-take-le z (drop at bs) (omega arith) in
    let parts : bs ≡ A ++ (v ++ B) =
    sym (take-append-drop at bs) ∙ ap (λ xs. A ++ xs) (sym (take-append-drop z (drop at bs)) ∙ ap (λ xs. v ++ xs) (drop-drop z at bs)) in
    let slots : take n' ss' ≡ pre ++ post = closed_up ss ss' pre (slot t z ∷ []) post n i 1 n' (n - (i + 1)) o.0 k.split (sym k.long) refl ms refl dn in
    let values : take u' vs' ≡ A ++ B = closed_up vs vs' A v B u at z u' (u - (at + z)) o.1 parts (sym lA) (sym lw) mv refl du in
    let e : cut (take n ss) bs ≡ cut pre A ++ (t, v) ∷ cut post B = ap (λ xs. cut xs bs) k.split ∙ cut_at pre post t z at bs f0 k.start in
    let c = cut_out (cut pre A) t v (cut post B) (ap good (sym e) ∙ o.2.1) in
    let j : cut (take n' ss') (take u' vs') ≡ cut pre A ++ cut post B =
    ap (λ xs. cut xs (take u' vs')) slots ∙ ap (cut (pre ++ post)) values ∙ cut_append pre post A B (omega arith) in
    let lAB = length-append A B in
    let z1 = ap sizes slots in
    let z2 = ap length values in
    record {
      sound = (omega (arith, o.0), omega (arith, o.1), (omega arith, ap good j ∙ c.fine));
      map = ap lookup j ∙ c.cut ∙ ap (λ es. changed (lookup es) t None) (sym e);
    }

pub ordered_push : (n u : ℕ) (ss ss' : List Slot) (vs vs' : List ℕ) (t : ℕ) (v : List ℕ) (n' u' : ℕ) → Ordered n u ss vs
    → filed_map n u ss vs t ≡ None → t < 16777216 → length v ≤ 255
    → take n' ss' ≡ take n ss ++ slot t (length v) ∷ [] → take u' vs' ≡ take u vs ++ v → n' ≤ length ss' → u' ≤ length vs'
    → Files n' u' ss' vs' (changed (filed_map n u ss vs) t (Some v))
ordered_push n u ss ss' vs vs' t v n' u' o none tag short slots values hn hu =
    let es : List Entry = cut (take n ss) (take u vs) in
    let p = push_on es t v o.2.1 none tag short in
    let j : cut (take n' ss') (take u' vs') ≡ es ++ (t, v) ∷ [] =
    ap (λ xs. cut xs (take u' vs')) slots ∙ ap (cut (take n ss ++ slot t (length v) ∷ [])) values
    ∙ cut_append (take n ss) (slot t (length v) ∷ []) (take u vs) v o.2.0
    ∙ ap (λ w. es ++ (t, w) ∷ []) (take_all (length v) v (omega arith)) in
    let z1 = ap sizes slots in
    let z2 = ap length values in
    let z3 = sizes_append (take n ss) (slot t (length v) ∷ []) in
    let z4 = length-append (take u vs) v in
    record { sound = (hn, hu, (omega (arith, o.2.0), ap good j ∙ p.fine)); map = ap lookup j ∙ p.map }

-- a value written over one of the same length
pub ordered_over : (n u : ℕ) (ss : List Slot) (vs vs' zs : List ℕ) (t i at z k : ℕ) (w : List ℕ) → Ordered n u ss vs → At (take n ss) t i at z
    → length w ≡ z → k ≡ z → zs ≡ w → vs' ≡ put_mid at k vs zs → length vs' ≡ length vs → Files n u ss vs' (changed (filed_map n u ss vs) t (Some w))
ordered_over n u ss vs vs' zs t i at z k w o p same dk ez moved long =
    let pre = p.pre in
    let post = p.post in
    let bs : List ℕ = take u vs in
    let lu : length bs ≡ u = length-take-le u vs o.1 in
    let f0 : sizes (pre ++ slot t z ∷ post) ≡ length bs = ap sizes (sym p.split) ∙ o.2.0 in
    let sa = sizes_append pre (slot t z ∷ post) in
    let ps = p.start in
    let A : List ℕ = take at bs in
    let v : List ℕ = take z (drop at bs) in
    let B : List ℕ = drop (at + z) bs in
    let lA : length A ≡ at = length-take-le at bs (omega arith) in
    let ld : length (drop at bs) ≡ length bs - at = length-drop at bs in
    let lB : length B ≡ length bs - (at + z) = length-drop (at + z) bs in
    let lw : length v ≡ z = length-take-le z (drop at bs) (omega arith) in
    let parts : bs ≡ A ++ (v ++ B) =
    sym (take-append-drop at bs) ∙ ap (λ xs. A ++ xs) (sym (take-append-drop z (drop at bs)) ∙ ap (λ xs. v ++ xs) (drop-drop z at bs)) in
    let values : take u vs' ≡ A ++ (w ++ B) = written_over vs vs' zs A v w B u at k o.1 parts (sym lA) (omega arith) (omega arith) ez moved in
    let e : cut (take n ss) bs ≡ cut pre A ++ (t, v) ∷ cut post B = ap (λ xs. cut xs bs) p.split ∙ cut_at pre post t z at bs f0 p.start in
    let one : cut (slot t z ∷ post) (w ++ B) ≡ (t, w) ∷ cut post B =
    cut_append (slot t z ∷ []) post w B (omega arith) ∙ ap (λ x. (t, x) ∷ cut post B) (take_all z w (omega arith)) in
    let j : cut (take n ss) (take u vs') ≡ cut pre A ++ (t, w) ∷ cut post B =
    ap (λ xs. cut xs (take u vs')) p.split ∙ ap (cut (pre ++ slot t z ∷ post)) values
    ∙ cut_append pre (slot t z ∷ post) A (w ++ B) (omega arith) ∙ ap (λ es. cut pre A ++ es) one in
    let g : good (cut pre A ++ (t, v) ∷ cut post B) ≡ true = ap good (sym e) ∙ o.2.1 in
    let q = good_parts (t, v) (cut post B) (good_drop (cut pre A) ((t, v) ∷ cut post B) g) in
    let r = replace (cut pre A) t v w (cut post B) g (omega (arith, q.short)) in
    let lu' = length-take-le u vs' (omega (arith, o.1)) in
    record {
      sound = (o.0, omega (arith, o.1), (omega (arith, o.2.0), ap good j ∙ r.fine));
      map = ap lookup j ∙ r.map ∙ ap (λ es. changed (lookup es) t (Some w)) (sym e);
    }
