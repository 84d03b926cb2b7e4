-- The dictionary's order, from one test that is computed over the whole table.
use Rattle.std.proofs.Common.{◌≡◌, ℕ, zero, suc, ◌<◌, Bool, true, false, not, ◌&&◌, eqb, ltb, List, [], ◌∷◌, length, get_or, Some, None, sym, refl, ap, ◌∙◌, subst, ⊎_elim, le_of_suc-le-suc, not-suc-le-zero, arith}
use Rattle.std.proofs.lemmas.Bool.{cases_Bool, not-true, and_parts, ltb-true, eqb-true, eq-eqb, ne_eqb, cond-true, cond-false}
use Rattle.dictionary.specs.declared.entry.Entry.{Entry}
use Rattle.dictionary.specs.Dictionary.{dictionary, entry_of, find, rises, Ordered, constructed}

-- what rises above b is above b at each place
pub above : (b : ℕ) (es : List Entry) → rises b es ≡ true → (k : ℕ) (d : Entry) → k < length es → b < (get_or es k d).tag
above b [] r k d h = absurd (not-suc-le-zero h)
above b (e ∷ es) r zero d h = ltb-true _ _ (and_parts _ _ r).0
above b (e ∷ es) r (suc k) d h =
    let first : b < e.tag = ltb-true _ _ (and_parts _ _ r).0 in
    omega (arith, above e.tag es (and_parts _ _ r).1 k d (le_of_suc-le-suc h))

-- and its tags are in order
in_order : (b : ℕ) (es : List Entry) → rises b es ≡ true → (i j : ℕ) (d : Entry) → i < j → j < length es → (get_or es i d).tag < (get_or es j d).tag
in_order b [] r i j d l h = absurd (not-suc-le-zero h)
in_order b (e ∷ es) r i zero d l h = absurd (not-suc-le-zero l)
in_order b (e ∷ es) r zero (suc j) d l h = above e.tag es (and_parts _ _ r).1 j d (le_of_suc-le-suc h)
in_order b (e ∷ es) r (suc i) (suc j) d l h = in_order e.tag es (and_parts _ _ r).1 i j d (le_of_suc-le-suc l) (le_of_suc-le-suc h)

-- the one test
pub dictionary_rises : rises 0 dictionary ≡ true
unfolding dictionary
dictionary_rises = refl

pub ordered_by : (es : List Entry) → rises 0 es ≡ true → Ordered es
ordered_by es r = in_order 0 es r

-- the tags of the dictionary are in order, so no tag stands twice
pub ordered : Ordered dictionary
ordered = ordered_by dictionary dictionary_rises

find_at : (b : ℕ) (es : List Entry) → rises b es ≡ true → (k : ℕ) (d : Entry) → k < length es → find (get_or es k d).tag es ≡ Some (get_or es k d)
find_at b [] r k d h = absurd (not-suc-le-zero h)
find_at b (e ∷ es) r zero d h = cond-true _ _ _ (eq-eqb e.tag e.tag refl)
find_at b (e ∷ es) r (suc k) d h =
    let parts = and_parts (ltb b e.tag) (rises e.tag es) r in
    let up : e.tag < (get_or es k d).tag = above e.tag es parts.1 k d (le_of_suc-le-suc h) in
    let apart : e.tag ≡ (get_or es k d).tag → ⊥ = λ same. omega arith in
    cond-false _ _ _ (ne_eqb e.tag (get_or es k d).tag apart)
    ∙ find_at e.tag es (and_parts _ _ r).1 k d (le_of_suc-le-suc h)

pub find_none : (t : ℕ) (es : List Entry) → ((k : ℕ) (d : Entry) → k < length es → (get_or es k d).tag ≡ t → ⊥) → find t es ≡ None
find_none t [] h = refl
find_none t (e ∷ es) h =
    cond-false _ _ _ (ne_eqb e.tag t (h 0 e (omega arith)))
    ∙ find_none t es (λ k d l. h (suc k) d (omega arith))

pub entry_at : (k : ℕ) (d : Entry) (t : ℕ) → k < length dictionary → (get_or dictionary k d).tag ≡ t → entry_of t ≡ Some (get_or dictionary k d)
unfolding entry_of
entry_at k d t h e = ap (λ n. find n dictionary) (sym e) ∙ find_at 0 dictionary dictionary_rises k d h

pub entry_none : (t : ℕ) → ((k : ℕ) (d : Entry) → k < length dictionary → (get_or dictionary k d).tag ≡ t → ⊥) → entry_of t ≡ None
unfolding entry_of
entry_none t h = find_none t dictionary h

pub long : length dictionary ≡ 48
unfolding dictionary
long = refl

-- a second test over the whole table: each tag has 24 bits and is no constructed object's, and each value at most 255 bytes
abbrev pub sound : List Entry → Bool
sound [] = true
sound (e ∷ es) = (not (constructed e.tag) && (ltb e.tag 16777216 && ltb e.most 256)) && sound es

pub all_sound : sound dictionary ≡ true
unfolding dictionary
all_sound = refl

-- what holds of the entry of a tag
pub record Sound (t : ℕ) (e : Entry) : Type 0 where
  pub same : e.tag ≡ t
  pub tag : t < 16777216
  pub most : e.most < 256
  pub primitive : constructed t ≡ false

found_sound : (es : List Entry) → sound es ≡ true → (t : ℕ) (e : Entry) → find t es ≡ Some e → Sound t e
found_sound [] s t e f = let z : ◌≡◌ {A = ℕ} 0 1 = cc in absurd (omega arith)
found_sound (x ∷ es) s t e f =
    let parts = and_parts (not (constructed x.tag) && (ltb x.tag 16777216 && ltb x.most 256)) (sound es) s in
    let here = and_parts (not (constructed x.tag)) (ltb x.tag 16777216 && ltb x.most 256) parts.0 in
    let both = and_parts (ltb x.tag 16777216) (ltb x.most 256) here.1 in
    ⊎_elim
    (λ yes.
    let is : x ≡ e = let q = cond-true (eqb x.tag t) (Some x) (find t es) yes in cc in
    let at : x.tag ≡ t = eqb-true x.tag t yes in
    let P : Entry → Type 0 = λ y. Sound t y in
    subst P is (record {
      same = at;
      tag = omega (arith, ltb-true _ _ both.0);
      most = ltb-true _ _ both.1;
      primitive = ap constructed (sym at) ∙ not-true (constructed x.tag) here.0;
    }))
    (λ nay. found_sound es parts.1 t e (sym (cond-false (eqb x.tag t) (Some x) (find t es) nay) ∙ f))
    (cases_Bool (eqb x.tag t))

pub entry_sound : (t : ℕ) (e : Entry) → entry_of t ≡ Some e → Sound t e
unfolding entry_of
entry_sound t e f = found_sound dictionary all_sound t e f
