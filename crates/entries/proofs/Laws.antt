-- Laws of entries: one of them cut out, replaced or added at the end, and what their map keeps.
use Rattle.std.proofs.Common.{◌≡◌, ℕ, ◌+◌, ◌-◌, ◌<◌, ◌≤◌, true, false, not, ◌&&◌, ltb, leb, List, [], ◌∷◌, ◌++◌, length, take, drop, is_some, IfSome, Some, None, Option, sym, refl, ap, ◌∙◌, subst, ⊎_elim, arith}
use lib.Seq.{paste}
use borrow.Rule.Slice.PartMut.{put_mid}
use Rattle.std.specs.Option.{option_map}
use Rattle.std.proofs.lemmas.List.{length-take-le, append_assoc, length-append, take_at, drop_at, take-take, drop-take, length-drop, take-append-drop}
use Rattle.std.proofs.lemmas.List.Edits.{take-paste}
use Rattle.std.proofs.lemmas.Bool.{and_parts, and_from, not-true, not_from_false, ltb-true, leb-true, lt-ltb, le-leb, cases_eq}
use Rattle.store.specs.Map.{changed, one, count}
use Rattle.store.specs.Maps.{changed_swap, changed_here, changed_other, changed_is, changed_changed, count_changed, count_empty}
use Rattle.entries.specs.Entries.{Entry, lookup, good}

none_from : (o : Option (List ℕ)) → is_some o ≡ false → o ≡ None
none_from None e = refl
none_from (Some v) e = let z : ◌≡◌ {A = ℕ} 0 1 = cc in absurd (omega arith)

none_test : (o : Option (List ℕ)) → o ≡ None → is_some o ≡ false
none_test o e = ap is_some e

pub record Parts (e : Entry) (es : List Entry) : Type 0 where
  pub tag : e.0 < 16777216
  pub short : length e.1 ≤ 255
  pub fresh : lookup es e.0 ≡ None
  pub rest : good es ≡ true

pub good_parts : (e : Entry) (es : List Entry) → good (e ∷ es) ≡ true → Parts e es
good_parts e es h =
    let p = and_parts (ltb e.0 16777216) (leb (length e.1) 255 && (not (is_some (lookup es e.0)) && good es)) h in
    let q = and_parts (leb (length e.1) 255) (not (is_some (lookup es e.0)) && good es) p.1 in
    let r = and_parts (not (is_some (lookup es e.0))) (good es) q.1 in
    record {
      tag = ltb-true e.0 16777216 p.0;
      short = leb-true (length e.1) 255 q.0;
      fresh = none_from (lookup es e.0) (not-true (is_some (lookup es e.0)) r.0);
      rest = r.1;
    }

pub good_from : (e : Entry) (es : List Entry) → Parts e es → good (e ∷ es) ≡ true
good_from e es p =
    and_from (ltb e.0 16777216) (leb (length e.1) 255 && (not (is_some (lookup es e.0)) && good es))
    (lt-ltb e.0 16777216 p.tag)
    (and_from (leb (length e.1) 255) (not (is_some (lookup es e.0)) && good es) (le-leb (length e.1) 255 p.short)
    (and_from (not (is_some (lookup es e.0))) (good es)
    (not_from_false (is_some (lookup es e.0)) (none_test (lookup es e.0) p.fresh)) p.rest))

pub none_cons : (e : Entry) (es : List Entry) (t : ℕ) → lookup (e ∷ es) t ≡ None → (t ≡ e.0 → ⊥) × (lookup es t ≡ None)
none_cons e es t h =
    let ne : t ≡ e.0 → ⊥ = λ q.
    let a : lookup (e ∷ es) t ≡ Some e.1 = ap (lookup (e ∷ es)) q ∙ changed_here (lookup es) e.0 (Some e.1) in
    let z : ◌≡◌ {A = ℕ} 0 1 = cc in omega arith in
    (ne, sym (changed_other (lookup es) e.0 t (Some e.1) ne) ∙ h)

pub none_append : (xs ys : List Entry) (t : ℕ) → lookup xs t ≡ None → lookup ys t ≡ None → lookup (xs ++ ys) t ≡ None
none_append [] ys t h k = k
none_append (x ∷ xs) ys t h k =
    let p = none_cons x xs t h in
    changed_other (lookup (xs ++ ys)) x.0 t (Some x.1) p.0 ∙ none_append xs ys t p.1 k

pub good_drop : (xs ys : List Entry) → good (xs ++ ys) ≡ true → good ys ≡ true
good_drop [] ys g = g
good_drop (x ∷ xs) ys g = good_drop xs ys (good_parts x (xs ++ ys) g).rest

-- taking one entry out
pub record Cut (pre : List Entry) (t : ℕ) (v : List ℕ) (post : List Entry) : Type 0 where
  pub here : lookup (pre ++ (t, v) ∷ post) t ≡ Some v
  pub cut : lookup (pre ++ post) ≡ changed (lookup (pre ++ (t, v) ∷ post)) t None
  pub fine : good (pre ++ post) ≡ true

pub cut_out : (pre : List Entry) (t : ℕ) (v : List ℕ) (post : List Entry) → good (pre ++ (t, v) ∷ post) ≡ true → Cut pre t v post
cut_out [] t v post g =
    let p = good_parts (t, v) post g in
    record {
      here = changed_here (lookup post) t (Some v);
      cut = changed_is (changed (lookup post) t (Some v)) (lookup post) t None p.fresh
          (λ k ne. sym (changed_other (lookup post) t k (Some v) ne));
      fine = p.rest;
    }
cut_out (x ∷ pre) t v post g =
    let all : List Entry = pre ++ (t, v) ∷ post in
    let p = good_parts x all g in
    let q = cut_out pre t v post p.rest in
    let ne : x.0 ≡ t → ⊥ = λ e.
    let a : lookup all x.0 ≡ Some v = ap (lookup all) e ∙ q.here in
    let b = p.fresh in
    let z : ◌≡◌ {A = ℕ} 0 1 = cc in omega arith in
    let fresh : lookup (pre ++ post) x.0 ≡ None =
    ap (λ m. m x.0) q.cut ∙ changed_other (lookup all) t x.0 None ne ∙ p.fresh in
    record {
      here = changed_other (lookup all) x.0 t (Some x.1) (λ e. ne (sym e)) ∙ q.here;
      cut = ap (λ m. changed m x.0 (Some x.1)) q.cut
          ∙ changed_swap (lookup all) t x.0 None (Some x.1) (λ e. ne (sym e));
      fine = good_from x (pre ++ post) (record { tag = p.tag; short = p.short; fresh = fresh; rest = q.fine });
    }

-- another value in the place of an entry's
pub record Replaced (pre : List Entry) (t : ℕ) (v w : List ℕ) (post : List Entry) : Type 0 where
  pub map : lookup (pre ++ (t, w) ∷ post) ≡ changed (lookup (pre ++ (t, v) ∷ post)) t (Some w)
  pub fine : good (pre ++ (t, w) ∷ post) ≡ true

pub replace : (pre : List Entry) (t : ℕ) (v w : List ℕ) (post : List Entry) → good (pre ++ (t, v) ∷ post) ≡ true → length w ≤ 255 → Replaced pre t v w post
replace [] t v w post g s =
    let p = good_parts (t, v) post g in
    record {
      map = sym (changed_changed (lookup post) t (Some v) (Some w));
      fine = good_from (t, w) post (record { tag = p.tag; short = s; fresh = p.fresh; rest = p.rest });
    }
replace (x ∷ pre) t v w post g s =
    let all : List Entry = pre ++ (t, v) ∷ post in
    let p = good_parts x all g in
    let c = cut_out pre t v post p.rest in
    let q = replace pre t v w post p.rest s in
    let ne : x.0 ≡ t → ⊥ = λ e.
    let a : lookup all x.0 ≡ Some v = ap (lookup all) e ∙ c.here in
    let b = p.fresh in
    let z : ◌≡◌ {A = ℕ} 0 1 = cc in omega arith in
    let fresh : lookup (pre ++ (t, w) ∷ post) x.0 ≡ None =
    ap (λ m. m x.0) q.map ∙ changed_other (lookup all) t x.0 (Some w) ne ∙ p.fresh in
    record {
      map = ap (λ m. changed m x.0 (Some x.1)) q.map
          ∙ changed_swap (lookup all) t x.0 (Some w) (Some x.1) (λ e. ne (sym e));
      fine = good_from x (pre ++ (t, w) ∷ post) (record { tag = p.tag; short = p.short; fresh = fresh; rest = q.fine });
    }

-- adding one entry at the end
pub record Pushed (es : List Entry) (t : ℕ) (v : List ℕ) : Type 0 where
  pub map : lookup (es ++ (t, v) ∷ []) ≡ changed (lookup es) t (Some v)
  pub fine : good (es ++ (t, v) ∷ []) ≡ true

pub push_on : (es : List Entry) (t : ℕ) (v : List ℕ) → good es ≡ true → lookup es t ≡ None → t < 16777216 → length v ≤ 255
    → Pushed es t v
push_on [] t v g h l s = record { map = refl; fine = good_from (t, v) [] (record { tag = l; short = s; fresh = refl; rest = refl }) }
push_on (x ∷ es) t v g h l s =
    let p = good_parts x es g in
    let n = none_cons x es t h in
    let q = push_on es t v p.rest n.1 l s in
    let fresh : lookup (es ++ (t, v) ∷ []) x.0 ≡ None =
    ap (λ m. m x.0) q.map ∙ changed_other (lookup es) t x.0 (Some v) (λ e. n.0 (sym e)) ∙ p.fresh in
    record {
      map = ap (λ m. changed m x.0 (Some x.1)) q.map ∙ changed_swap (lookup es) t x.0 (Some v) (Some x.1) n.0;
      fine = good_from x (es ++ (t, v) ∷ []) (record { tag = p.tag; short = p.short; fresh = fresh; rest = q.fine });
    }

pub count_lookup : (es : List Entry) → good es ≡ true → count (lookup es) ≡ length es
count_lookup [] g = count_empty
count_lookup (e ∷ es) g =
    let p = good_parts e es g in
    let a = count_changed (lookup es) e.0 (Some e.1) p.tag in
    let b = ap one p.fresh in
    let c = count_lookup es p.rest in
    omega arith

pub lookup_short : (es : List Entry) → good es ≡ true → (k : ℕ) → IfSome (lookup es k) (λ v. length v ≤ 255)
lookup_short [] g k = tt
lookup_short (e ∷ es) g k =
    let p = good_parts e es g in
    let C : Option (List ℕ) → Type 0 = λ o. IfSome o (λ v. length v ≤ 255) in
    ⊎_elim
    (λ q. subst C (sym (ap (lookup (e ∷ es)) q ∙ changed_here (lookup es) e.0 (Some e.1))) p.short)
    (λ ne. subst C (sym (changed_other (lookup es) e.0 k (Some e.1) ne)) (lookup_short es p.rest k))
    (cases_eq k e.0)

pub lookup_tags : (es : List Entry) → good es ≡ true → (k : ℕ) → 16777216 ≤ k → lookup es k ≡ None
lookup_tags [] g k l = refl
lookup_tags (e ∷ es) g k l =
    let p = good_parts e es g in
    let t = p.tag in
    changed_other (lookup es) e.0 k (Some e.1) (λ q. omega arith) ∙ lookup_tags es p.rest k l

-- the front of a after the part M of it, between P and Q, is closed up: what lies behind M is copied down to its place
pub closed_up : {X : Type 0} (a ys P M Q : List X) (u at z u' k : ℕ) → u ≤ length a → take u a ≡ P ++ (M ++ Q) → at ≡ length P → z ≡ length M
    → ys ≡ paste a at (drop (at + z) a) k → k ≡ u - (at + z) → u' ≡ u - z → take u' ys ≡ P ++ Q
closed_up a ys P M Q u at z u' k h e p m moved n d =
    let lu = length-take-le u a h in
    let le = ap length e in
    let l1 = length-append P (M ++ Q) in
    let l2 = length-append M Q in
    let l3 = length-append P M in
    let l4 = length-drop (at + z) a in
    let front : take at a ≡ P = sym (take-take at u a (omega arith)) ∙ ap (take at) e ∙ take_at P (M ++ Q) at (sym p) in
    let j : at + z + k ≡ u = omega arith in
    let back : take k (drop (at + z) a) ≡ Q =
    sym (drop-take (at + z) k a) ∙ ap (λ i. drop (at + z) (take i a)) j ∙ ap (drop (at + z)) (e ∙ sym (append_assoc P M Q))
    ∙ drop_at (P ++ M) Q (at + z) (omega arith) in
    let i : u' ≡ at + k = omega arith in
    ap (λ x. take x ys) i ∙ ap (take (at + k)) moved ∙ take-paste a at (drop (at + z) a) k (omega arith) (omega arith)
    ∙ ap (λ xs. xs ++ take k (drop (at + z) a)) front ∙ ap (λ xs. P ++ xs) back

-- the front of a after the part M of it, between P and Q, is written over by one of the same length
pub written_over : {X : Type 0} (a ys zs P M M' Q : List X) (u at k : ℕ) → u ≤ length a → take u a ≡ P ++ (M ++ Q) → at ≡ length P → k ≡ length M → length M' ≡ length M
    → zs ≡ M' → ys ≡ put_mid at k a zs → take u ys ≡ P ++ (M' ++ Q)
written_over {X} a ys zs P M M' Q u at k h e p ek m ez moved =
    let D : List X = drop u a in
    let whole : a ≡ P ++ (M ++ (Q ++ D)) =
    sym (take-append-drop u a) ∙ ap (λ xs. xs ++ D) e ∙ append_assoc P (M ++ Q) D ∙ ap (λ xs. P ++ xs) (append_assoc M Q D) in
    let front : take at a ≡ P = ap (take at) whole ∙ take_at P (M ++ (Q ++ D)) at (sym p) in
    let behind : drop at a ≡ M ++ (Q ++ D) = ap (drop at) whole ∙ drop_at P (M ++ (Q ++ D)) at (sym p) in
    let back : drop k (drop at a) ≡ Q ++ D = ap (drop k) behind ∙ drop_at M (Q ++ D) k (sym ek) in
    let made : ys ≡ (P ++ (M' ++ Q)) ++ D =
    moved ∙ ap (λ xs. take at a ++ (xs ++ drop k (drop at a))) ez ∙ ap (λ xs. xs ++ (M' ++ drop k (drop at a))) front ∙ ap (λ xs. P ++ (M' ++ xs)) back
    ∙ ap (λ xs. P ++ xs) (sym (append_assoc M' Q D)) ∙ sym (append_assoc P (M' ++ Q) D) in
    let lu = length-take-le u a h in
    let le = ap length e in
    let l1 = length-append P (M ++ Q) in
    let l2 = length-append M Q in
    let l3 = length-append P (M' ++ Q) in
    let l4 = length-append M' Q in
    ap (take u) made ∙ take_at (P ++ (M' ++ Q)) D u (omega arith)

pub length_put_mid : {X : Type 0} (a k : ℕ) (xs ys : List X) → a + k ≤ length xs → length ys ≡ k → length (put_mid a k xs ys) ≡ length xs
length_put_mid a k xs ys h e =
    let p = length-take-le a xs (omega arith) in
    let q = length-drop a xs in
    let r = length-drop k (drop a xs) in
    let s = length-append (take a xs) (ys ++ drop k (drop a xs)) in
    let t = length-append ys (drop k (drop a xs)) in
    omega arith

-- a tag whose value has a length is held
pub held_length : (o : Option (List ℕ)) (n : ℕ) → option_map length o ≡ Some n → (v : List ℕ) → o ≡ Some v → length v ≡ n
held_length o n e v h = let a : Some (length v) ≡ Some n = sym (ap (option_map length) h) ∙ e in cc
