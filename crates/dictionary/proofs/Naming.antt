-- Names beside the entries.
use Rattle.std.proofs.Common.{◌≡◌, ℕ, zero, suc, ◌<◌, true, ltb, List, [], ◌∷◌, length, get_or, Some, None, sym, refl, ap, ◌∙◌, le_of_suc-le-suc, not-suc-le-zero, arith}
use Rattle.std.proofs.lemmas.Bool.{eq-eqb, ne_eqb, cond-true, cond-false, and_parts}
use Rattle.dictionary.specs.declared.entry.Entry.{Entry}
use Rattle.dictionary.specs.Dictionary.{dictionary, rises}
use Rattle.dictionary.specs.Names.{names, beside, name_of}
use Rattle.dictionary.proofs.Order.{above, dictionary_rises}

beside_at : (b : ℕ) (es : List Entry) (ns : List (List ℕ)) → rises b es ≡ true → (k : ℕ) (d : Entry) → k < length es → k < length ns → beside (get_or es k d).tag es ns ≡ Some (get_or ns k [])
beside_at b [] ns r k d h l = absurd (not-suc-le-zero h)
beside_at b (e ∷ es) [] r k d h l = absurd (not-suc-le-zero l)
beside_at b (e ∷ es) (n ∷ ns) r zero d h l = cond-true _ _ _ (eq-eqb e.tag e.tag refl)
beside_at b (e ∷ es) (n ∷ ns) r (suc k) d h l =
    let parts = and_parts (ltb b e.tag) (rises e.tag es) r in
    let up : e.tag < (get_or es k d).tag = above e.tag es parts.1 k d (le_of_suc-le-suc h) in
    let apart : e.tag ≡ (get_or es k d).tag → ⊥ = λ same. omega arith in
    cond-false _ _ _ (ne_eqb e.tag (get_or es k d).tag apart)
    ∙ beside_at e.tag es ns (and_parts _ _ r).1 k d (le_of_suc-le-suc h) (le_of_suc-le-suc l)

beside_none : (t : ℕ) (es : List Entry) (ns : List (List ℕ)) → ((k : ℕ) (d : Entry) → k < length es → (get_or es k d).tag ≡ t → ⊥) → beside t es ns ≡ None
beside_none t [] ns h = refl
beside_none t (e ∷ es) [] h = refl
beside_none t (e ∷ es) (n ∷ ns) h =
    cond-false _ _ _ (ne_eqb e.tag t (h 0 e (omega arith)))
    ∙ beside_none t es ns (λ k d l. h (suc k) d (omega arith))

pub named_all : length names ≡ 48
unfolding names
named_all = refl

pub name_at_lem : (k : ℕ) (d : Entry) (t : ℕ) → k < length dictionary → k < 48 → (get_or dictionary k d).tag ≡ t → Some (get_or names k []) ≡ name_of t
unfolding name_of
name_at_lem k d t h l e =
    let n = named_all in
    sym (ap (λ q. beside q dictionary names) (sym e) ∙ beside_at 0 dictionary names dictionary_rises k d h (omega arith))

pub name_none : (t : ℕ) → ((k : ℕ) (d : Entry) → k < length dictionary → (get_or dictionary k d).tag ≡ t → ⊥) → None ≡ name_of t
unfolding name_of
name_none t h = sym (beside_none t dictionary names h)
