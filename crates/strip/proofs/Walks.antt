-- Laws of the bytes that entries are written as, and of a walk over them.
use Rattle.std.proofs.Common.{◌≡◌, ℕ, suc, ◌+◌, ◌-◌, ◌<◌, ◌≤◌, true, List, [], ◌∷◌, ◌++◌, length, take, drop, Some, None, sym, refl, ap, ◌∙◌, arith}
use Rattle.std.proofs.lemmas.List.{append_assoc, append-nil, length-append, take_at, drop_at, drop-drop}
use Rattle.store.specs.Map.{empty}
use Rattle.store.specs.Maps.{changed_other}
use Rattle.entries.specs.Entries.{Entry, lookup, good}
use Rattle.entries.proofs.Laws.{good_parts, good_drop, none_append, cut_out}
use Rattle.strip.specs.Strip.{entry_bytes, written, front_tag, front_length, entries}
use Rattle.strip.specs.Spot.{Spot}

pub written_append : (xs ys : List Entry) → written (xs ++ ys) ≡ written xs ++ written ys
written_append [] ys = refl
written_append (x ∷ xs) ys =
    ap (λ zs. entry_bytes x.0 x.1 ++ zs) (written_append xs ys)
    ∙ sym (append_assoc (entry_bytes x.0 x.1) (written xs) (written ys))

pub front_tag_is : (t : ℕ) (v zs : List ℕ) → t < 16777216 → front_tag (entry_bytes t v ++ zs) ≡ t
front_tag_is t v zs l = omega arith

pub front_length_is : (t : ℕ) (v zs : List ℕ) → length v ≤ 255 → front_length (entry_bytes t v ++ zs) ≡ length v
front_length_is t v zs l = omega arith

pub length_entry : (t : ℕ) (v : List ℕ) → length (entry_bytes t v) ≡ 5 + length v
length_entry t v = omega arith

entries_front : (t : ℕ) (v ws : List ℕ) (n : ℕ) → t < 16777216 → length v ≤ 255
    → entries (suc n) (entry_bytes t v ++ ws) ≡ (t, v) ∷ entries n ws
entries_front t v ws n l h =
    let a = front_tag_is t v ws l in
    let b = front_length_is t v ws h in
    let c : take (front_length (entry_bytes t v ++ ws)) (v ++ ws) ≡ v = ap (λ k. take k (v ++ ws)) b ∙ take_at v ws (length v) refl in
    let d : drop (5 + front_length (entry_bytes t v ++ ws)) (entry_bytes t v ++ ws) ≡ ws =
    ap (λ k. drop (5 + k) (entry_bytes t v ++ ws)) b ∙ drop_at (entry_bytes t v) ws (5 + length v) (length_entry t v) in
    cc

pub entries_written : (es : List Entry) (zs : List ℕ) → good es ≡ true → entries (length es) (written es ++ zs) ≡ es
entries_written [] zs g = refl
entries_written (e ∷ es) zs g =
    let p = good_parts e es g in
    ap (entries (suc (length es))) (append_assoc (entry_bytes e.0 e.1) (written es) zs)
    ∙ entries_front e.0 e.1 (written es ++ zs) (length es) p.tag p.short
    ∙ ap (λ xs. e ∷ xs) (entries_written es zs p.rest)

-- A walk over the entries es from the front: pre are passed, none of them has the tag t, and rest is the bytes of the others.
pub record Walk (es : List Entry) (t : ℕ) (rest : List ℕ) : Type 0 where
  pub pre : List Entry
  pub post : List Entry
  pub split : es ≡ pre ++ post
  pub text : rest ≡ written post
  pub before : lookup pre t ≡ None

pub walk_within : (bs : List ℕ) (es : List Entry) (t : ℕ) (rest : List ℕ) → bs ≡ written es → Walk es t rest → length rest ≤ length bs
walk_within bs es t rest w k =
    let a = ap length (w ∙ ap written k.split ∙ written_append k.pre k.post) in
    let b = length-append (written k.pre) (written k.post) in
    let c = ap length k.text in
    omega arith

-- the entry at the front of the rest
pub record Front (es : List Entry) (t : ℕ) (rest : List ℕ) : Type 0 where
  pub pre : List Entry
  pub e : Entry
  pub post : List Entry
  pub split : es ≡ pre ++ e ∷ post
  pub text : rest ≡ entry_bytes e.0 e.1 ++ written post
  pub before : lookup pre t ≡ None
  pub tag : front_tag rest ≡ e.0
  pub len : front_length rest ≡ length e.1
  pub room : 5 + front_length rest ≤ length rest

front_of : (es pre post : List Entry) (t : ℕ) (rest : List ℕ) → good es ≡ true → 5 ≤ length rest
    → es ≡ pre ++ post → rest ≡ written post → lookup pre t ≡ None → Front es t rest
front_of es pre [] t rest g l s w h = let a = ap length w in absurd (omega arith)
front_of es pre (e ∷ post) t rest g l s w h =
    let q = good_parts e post (good_drop pre (e ∷ post) (ap good (sym s) ∙ g)) in
    let len : front_length rest ≡ length e.1 = ap front_length w ∙ front_length_is e.0 e.1 (written post) q.short in
    let a = ap length w in
    let b = length-append (entry_bytes e.0 e.1) (written post) in
    let d = length_entry e.0 e.1 in
    record {
      pre = pre;
      e = e;
      post = post;
      split = s;
      text = w;
      before = h;
      tag = ap front_tag w ∙ front_tag_is e.0 e.1 (written post) q.tag;
      len = len;
      room = omega arith;
    }

pub walk_front : (es : List Entry) (t : ℕ) (rest : List ℕ) → good es ≡ true → 5 ≤ length rest → Walk es t rest → Front es t rest
walk_front es t rest g l k = front_of es k.pre k.post t rest g l k.split k.text k.before

pub walk_on : (es : List Entry) (t : ℕ) (rest : List ℕ) → Front es t rest → (front_tag rest ≡ t → ⊥)
    → Walk es t (drop (front_length rest) (drop 5 rest))
walk_on es t rest k ne =
    let u = k.tag in
    record {
      pre = k.pre ++ k.e ∷ [];
      post = k.post;
      split = k.split ∙ sym (append_assoc k.pre (k.e ∷ []) k.post);
      text = ap (λ xs. drop (front_length rest) (drop 5 xs)) k.text ∙ drop_at k.e.1 (written k.post) (front_length rest) (sym k.len);
      before = none_append k.pre (k.e ∷ []) t k.before (changed_other empty k.e.0 t (Some k.e.1) (λ q. ne (u ∙ sym q)));
    }

none_left : (es pre post : List Entry) (t : ℕ) (rest : List ℕ) → length rest < 5 → es ≡ pre ++ post → rest ≡ written post
    → lookup pre t ≡ None → lookup es t ≡ None
none_left es pre [] t rest l s w h = ap (λ xs. lookup xs t) (s ∙ append-nil pre) ∙ h
none_left es pre (e ∷ post) t rest l s w h =
    let a = ap length w in
    let b = length-append (entry_bytes e.0 e.1) (written post) in
    let d = length_entry e.0 e.1 in
    absurd (omega arith)

pub walk_end : (es : List Entry) (t : ℕ) (rest : List ℕ) → length rest < 5 → Walk es t rest → lookup es t ≡ None
walk_end es t rest l k = none_left es k.pre k.post t rest l k.split k.text k.before

pub spot_at : (bs : List ℕ) (es : List Entry) (t at n : ℕ) (rest : List ℕ) → bs ≡ written es → good es ≡ true
    → (k : Front es t rest) → front_tag rest ≡ t → at ≡ length bs - length rest → n ≡ front_length rest → Spot bs es t at n
spot_at bs es t at n rest w g k same place size =
    let pre = k.pre in
    let v = k.e.1 in
    let post = k.post in
    let s : es ≡ pre ++ (t, v) ∷ post = k.split ∙ ap (λ x. pre ++ (x, v) ∷ post) (sym k.tag ∙ same) in
    let text : bs ≡ written pre ++ (entry_bytes t v ++ written post) = w ∙ ap written s ∙ written_append pre ((t, v) ∷ post) in
    let long : length v ≡ n = sym k.len ∙ sym size in
    let a = ap length text in
    let b = length-append (written pre) (entry_bytes t v ++ written post) in
    let c = length-append (entry_bytes t v) (written post) in
    let d = length_entry t v in
    let f = ap length k.text in
    let h = length-append (entry_bytes k.e.0 v) (written post) in
    let j = length_entry k.e.0 v in
    let here : at ≡ length (written pre) = omega arith in
    let left : drop at bs ≡ entry_bytes t v ++ written post =
    ap (drop at) text ∙ drop_at (written pre) (entry_bytes t v ++ written post) at (sym here) in
    record {
      pre = pre;
      v = v;
      post = post;
      split = s;
      place = here;
      here = ap (λ xs. lookup xs t) s ∙ (cut_out pre t v post (ap good (sym s) ∙ g)).here;
      text = text;
      len = ap front_length (left ∙ ap (λ x. entry_bytes x v ++ written post) (sym same ∙ k.tag) ∙ sym k.text) ∙ k.len;
      long = long;
      room = omega arith;
      value = ap (take n) (sym (drop-drop 5 at bs) ∙ ap (drop 5) left) ∙ take_at v (written post) n long;
    }
