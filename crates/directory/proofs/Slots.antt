-- Laws of slots, and of a search among them.
use Rattle.std.proofs.Common.{◌≡◌, ℕ, ◌+◌, ◌-◌, ◌<◌, ◌≤◌, eqb, List, [], ◌∷◌, ◌++◌, length, get_or, take, drop, Some, None, Option, sym, refl, ap, ◌∙◌, subst, ⊎_elim, arith, MatchOption}
use Rattle.std.specs.Option.{option_map}
use Rattle.std.proofs.lemmas.List.{take-take, drop-take, drop-drop, get_or_at, append_assoc, length-append, length-take-le, length-drop, nil_from_length, take-append-le, drop-append-le, take-append-drop}
use Rattle.std.proofs.lemmas.Bool.{cases_eq, eq-eqb, ne_eqb, cond-true, cond-false}
use Rattle.directory.specs.declared.slot.Slot.{Slot}
use Rattle.directory.specs.declared.slot.Place.{Place}
use Rattle.entries.specs.Entries.{lookup, good}
use Rattle.entries.proofs.Laws.{cut_out}
use Rattle.directory.specs.Directory.{slot, sizes, slot_at, cut, Filed, Ordered, filed_map}
use Rattle.directory.specs.Found.{At, Found}

pub sizes_append : (xs ys : List Slot) → sizes (xs ++ ys) ≡ sizes xs + sizes ys
sizes_append [] ys = omega arith
sizes_append (x ∷ xs) ys = let a = sizes_append xs ys in omega arith

-- entries of two parts
pub cut_append : (xs ys : List Slot) (a b : List ℕ) → sizes xs ≡ length a → cut (xs ++ ys) (a ++ b) ≡ cut xs a ++ cut ys b
cut_append [] ys a b e = ap (λ zs. cut ys (zs ++ b)) (nil_from_length a (sym e))
cut_append (x ∷ xs) ys a b e =
    let l : x.size ≤ length a = omega arith in
    let d = length-drop x.size a in
    let p = take-append-le x.size a b l in
    let q = drop-append-le x.size a b l in
    let r = cut_append xs ys (drop x.size a) b (omega arith) in
    let s : cut (xs ++ ys) (drop x.size (a ++ b)) ≡ cut xs (drop x.size a) ++ cut ys b = ap (cut (xs ++ ys)) q ∙ r in
    cc

-- a walk over slots
abbrev pub Passed : List Slot → ℕ → ℕ → ℕ → Type 0
Passed ss t i at =
    (pre : List Slot) × (post : List Slot) × (ss ≡ pre ++ post) × (length pre ≡ i) × (at ≡ sizes pre) × (slot_at pre t ≡ None)

slot_at_append : (xs ys : List Slot) (t : ℕ) → slot_at xs t ≡ None → slot_at (xs ++ ys) t ≡ slot_at ys t
slot_at_append [] ys t h = refl
slot_at_append (x ∷ xs) ys t h = ⊎_elim
    (λ e. let a = cond-true (eqb t x.tag) (Some x.size) (slot_at xs t) (eq-eqb t x.tag e) in
    let z : ◌≡◌ {A = ℕ} 0 1 = cc in absurd (omega arith))
    (λ ne. let b = ne_eqb t x.tag ne in
    cond-false (eqb t x.tag) (Some x.size) (slot_at (xs ++ ys) t) b
    ∙ slot_at_append xs ys t (sym (cond-false (eqb t x.tag) (Some x.size) (slot_at xs t) b) ∙ h))
    (cases_eq t x.tag)

pub record Next (ss : List Slot) (t i at : ℕ) (s : Slot) : Type 0 where
  pub pre : List Slot
  pub post : List Slot
  pub split : ss ≡ pre ++ s ∷ post
  pub long : length pre ≡ i
  pub start : at ≡ sizes pre
  pub before : slot_at pre t ≡ None
  pub room : at + s.size ≤ sizes ss

next_of : (ss pre post : List Slot) (t i at : ℕ) (s : Slot) → ss ≡ pre ++ post → length pre ≡ i → at ≡ sizes pre → slot_at pre t ≡ None
    → i < length ss → s ≡ get_or ss i s → Next ss t i at s
next_of ss pre [] t i at s e l a h lt r = let b = ap length e in let c = length-append pre [] in absurd (omega arith)
next_of ss pre (x ∷ post) t i at s e l a h lt r =
    let q : s ≡ x = r ∙ ap (λ zs. get_or zs i s) e ∙ get_or_at pre x post s i l in
    let f : ss ≡ pre ++ s ∷ post = e ∙ ap (λ y. pre ++ y ∷ post) (sym q) in
    let z = ap sizes f in
    let w = sizes_append pre (s ∷ post) in
    record { pre = pre; post = post; split = f; long = l; start = a; before = h; room = omega arith }

pub passed_next : (ss : List Slot) (t i at : ℕ) (s : Slot) → Passed ss t i at → i < length ss → s ≡ get_or ss i s → Next ss t i at s
passed_next ss t i at s p lt r = next_of ss p.0 p.1 t i at s p.2 p.3 p.4 p.5 lt r

pub next_at : (ss : List Slot) (t i at : ℕ) (s : Slot) → Next ss t i at s → i < length ss → s.tag ≡ t → At ss t i at s.size
next_at ss t i at s n lt e =
    let f : ss ≡ n.pre ++ slot t s.size ∷ n.post = n.split ∙ ap (λ u. n.pre ++ slot u s.size ∷ n.post) e in
    record {
      pre = n.pre;
      post = n.post;
      split = f;
      long = n.long;
      start = n.start;
      size = ap (λ xs. slot_at xs t) f ∙ slot_at_append n.pre (slot t s.size ∷ n.post) t n.before
          ∙ cond-true (eqb t t) (Some s.size) (slot_at n.post t) (eq-eqb t t refl);
      room = n.room;
      within = lt;
    }

pub next_more : (ss : List Slot) (t i at : ℕ) (s : Slot) → Next ss t i at s → (s.tag ≡ t → ⊥) → Passed ss t (i + 1) (at + s.size)
next_more ss t i at s n ne =
    let a = n.start in
    let b = n.long in
    let c = length-append n.pre (s ∷ []) in
    let d = sizes_append n.pre (s ∷ []) in (
      n.pre ++ s ∷ [],
      n.post,
      n.split ∙ sym (append_assoc n.pre (s ∷ []) n.post),
      omega arith,
      omega arith,
      slot_at_append n.pre (s ∷ []) t n.before
          ∙ cond-false (eqb t s.tag) (Some s.size) None (ne_eqb t s.tag (λ q. ne (sym q))),
    )

-- slots and entries hold the same tags at the same lengths
pub lengths_cut : (ss : List Slot) (vs : List ℕ) (t : ℕ) → sizes ss ≤ length vs → option_map length (lookup (cut ss vs) t) ≡ slot_at ss t
lengths_cut [] vs t l = refl
lengths_cut (s ∷ ss) vs t l =
    let n : length (take s.size vs) ≡ s.size = length-take-le s.size vs (omega arith) in
    let d = length-drop s.size vs in
    let r = lengths_cut ss (drop s.size vs) t (omega arith) in
    ⊎_elim
    (λ e. let b = eq-eqb t s.tag e in
    ap (option_map length) (cond-true (eqb t s.tag) (Some (take s.size vs)) (lookup (cut ss (drop s.size vs)) t) b)
    ∙ ap Some n ∙ sym (cond-true (eqb t s.tag) (Some s.size) (slot_at ss t) b))
    (λ ne. let b = ne_eqb t s.tag ne in
    ap (option_map length) (cond-false (eqb t s.tag) (Some (take s.size vs)) (lookup (cut ss (drop s.size vs)) t) b)
    ∙ r ∙ sym (cond-false (eqb t s.tag) (Some s.size) (slot_at ss t) b))
    (cases_eq t s.tag)

-- the entry of a slot
pub cut_at : (pre post : List Slot) (t z at : ℕ) (vs : List ℕ) → sizes (pre ++ slot t z ∷ post) ≡ length vs → at ≡ sizes pre
    → cut (pre ++ slot t z ∷ post) vs ≡ cut pre (take at vs) ++ (t, take z (drop at vs)) ∷ cut post (drop (at + z) vs)
cut_at pre post t z at vs e a =
    let s = sizes_append pre (slot t z ∷ post) in
    let l = length-take-le at vs (omega arith) in
    ap (cut (pre ++ slot t z ∷ post)) (sym (take-append-drop at vs))
    ∙ cut_append pre (slot t z ∷ post) (take at vs) (drop at vs) (omega arith)
    ∙ ap (λ bs. cut pre (take at vs) ++ (t, take z (drop at vs)) ∷ cut post bs) (drop-drop z at vs)

-- what a directory holds at a found slot
pub held_at : (ss : List Slot) (vs : List ℕ) (t i at z : ℕ) → Filed ss vs → At ss t i at z → lookup (cut ss vs) t ≡ Some (take z (drop at vs))
held_at ss vs t i at z f k =
    let e : cut ss vs ≡ cut k.pre (take at vs) ++ (t, take z (drop at vs)) ∷ cut k.post (drop (at + z) vs) =
    ap (λ xs. cut xs vs) k.split ∙ cut_at k.pre k.post t z at vs (ap sizes (sym k.split) ∙ f.0) k.start in
    ap (λ es. lookup es t) e
    ∙ (cut_out (cut k.pre (take at vs)) t (take z (drop at vs)) (cut k.post (drop (at + z) vs)) (ap good (sym e) ∙ f.1)).here

none_length : (o : Option (List ℕ)) → option_map length o ≡ None → o ≡ None
none_length None e = refl
none_length (Some v) e = let z : ◌≡◌ {A = ℕ} 0 1 = cc in absurd (omega arith)

pub absent : (ss : List Slot) (vs : List ℕ) (t : ℕ) → Filed ss vs → slot_at ss t ≡ None → lookup (cut ss vs) t ≡ None
absent ss vs t f h = none_length (lookup (cut ss vs) t) (lengths_cut ss vs t (omega (arith, f.0)) ∙ h)

pub found : (n u : ℕ) (ss : List Slot) (vs : List ℕ) (t i at z : ℕ) → Ordered n u ss vs → At (take n ss) t i at z → Found n u ss vs t i at z
found n u ss vs t i at z o k =
    let lu = length-take-le u vs o.1 in
    let r = k.room in
    let e = o.2.0 in
    let d = length-drop at vs in
    let j : at + (u - at) ≡ u = omega arith in
    let same : take z (drop at (take u vs)) ≡ take z (drop at vs) =
    ap (λ x. take z (drop at (take x vs))) (sym j) ∙ ap (take z) (drop-take at (u - at) vs) ∙ take-take z (u - at) (drop at vs) (omega arith) in
    record {
      slot = k;
      here = held_at (take n ss) (take u vs) t i at z o.2 k ∙ ap Some same;
      long = length-take-le z (drop at vs) (omega (arith, o.1));
      inside = omega (arith, o.1);
    }

pub place_cases : (k n u : ℕ) (ss : List Slot) (vs : List ℕ) (t : ℕ) (r : Option Place) → k ≡ n → Ordered n u ss vs
    → MatchOption r (slot_at (take k ss) t ≡ None) (λ p. At (take k ss) t p.index p.start p.size)
    → MatchOption r (filed_map n u ss vs t ≡ None) (λ p. Found n u ss vs t p.index p.start p.size)
place_cases k n u ss vs t None e o h = absent (take n ss) (take u vs) t o.2 (ap (λ x. slot_at (take x ss) t) (sym e) ∙ h)
place_cases k n u ss vs t (Some p) e o h =
    let Q : ℕ → Type 0 = λ x. At (take x ss) t p.index p.start p.size in
    found n u ss vs t p.index p.start p.size o (subst Q e h)
