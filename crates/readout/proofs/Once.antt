-- Each tag of a list is wanted once.
use Rattle.std.proofs.Common.{◌≡◌, ℕ, zero, suc, ◌+◌, Bool, true, false, cond, ◌||◌, eqb, List, [], ◌∷◌, ◌++◌, length, Ok, Err, Result, sym, refl, ap, ◌∙◌, arith, eqb-true}
use Rattle.tlv.specs.declared.fault.TextFault.{TextFault}
use Rattle.readout.specs.Wanted.{Listed, done, cut, lists, listed_in, among, different, before, at_most, wanted_tags, stands, times, EachOnce}

or_false : (a : Bool) → a || false ≡ a
or_false true = refl
or_false false = refl

or_assoc : (a b c : Bool) → a || (b || c) ≡ (a || b) || c
or_assoc true b c = refl
or_assoc false b c = refl

among_append : (t : ℕ) (xs : List ℕ) (u : ℕ) → among t (xs ++ u ∷ []) ≡ among t xs || eqb u t
among_append t [] u = or_false (eqb u t)
among_append t (x ∷ xs) u = ap (λ b. eqb x t || b) (among_append t xs u) ∙ or_assoc (eqb x t) (among t xs) (eqb u t)

none : (b : Bool) → ◌≡◌ {A = ℕ} 0 (cond b 0 0)
none true = refl
none false = refl

-- a tag that stood before
again : (x a s : Bool) (r : ℕ) → (x ≡ true → a ≡ true) → r ≡ cond a 0 (cond s 1 0) → r ≡ cond a 0 (cond (x || s) 1 0)
again true true s r f e = e
again true false s r f e = let z : ◌≡◌ {A = Bool} false true = f refl in absurd (let w : ◌≡◌ {A = ℕ} 0 1 = cc in omega arith)
again false a s r f e = e

-- one that did not
fresh : (x a s : Bool) (r : ℕ) → (x ≡ true → a ≡ false) → r ≡ cond (a || x) 0 (cond s 1 0) → cond x 1 0 + r ≡ cond a 0 (cond (x || s) 1 0)
fresh true true s r f e = let z : ◌≡◌ {A = Bool} true false = f refl in absurd (let w : ◌≡◌ {A = ℕ} 0 1 = cc in omega arith)
fresh true false s r f e = omega arith
fresh false true s r f e = omega arith
fresh false false true r f e = omega arith
fresh false false false r f e = omega arith

module _ (t u : ℕ) (seen : List ℕ) (b : Bool) (is : among u seen ≡ b) where
  same : eqb u t ≡ true → among t seen ≡ b
  same h = ap (λ x. among x seen) (sym (eqb-true u t h)) ∙ is

module _ (t u at n : ℕ) (seen ts : List ℕ) (rest : Listed) where
  abbrev Goal : Type 0
  Goal = times t ts ≡ cond (among t seen) 0 (cond (eqb u t || stands t rest) 1 0)

  taken : (r : Result (List ℕ) TextFault) → ((ts' : List ℕ) → r ≡ Ok ts' → times t ts' ≡ cond (among t (seen ++ u ∷ [])) 0 (cond (stands t rest) 1 0)) → among u seen ≡ false → before u r ≡ Ok ts → Goal
  taken (Ok us) ih is e =
      let q : ts ≡ (u ∷ us) = cc in
      ap (times t) q
      ∙ fresh (eqb u t) (among t seen) (stands t rest) (times t us) (same t u seen false is)
      (ih us refl ∙ ap (λ b. cond b 0 (cond (stands t rest) 1 0)) (among_append t seen u))
  taken (Err f) ih is e = let z : ◌≡◌ {A = ℕ} 0 1 = cc in absurd (omega arith)

pub once : (l : Listed) (n : ℕ) (seen ts : List ℕ) (t : ℕ) → at_most n (different seen l) ≡ Ok ts → times t ts ≡ cond (among t seen) 0 (cond (stands t l) 1 0)
once done zero seen ts t e = let q : ts ≡ [] = cc in ap (times t) q ∙ none (among t seen)
once done (suc n) seen ts t e = let q : ts ≡ [] = cc in ap (times t) q ∙ none (among t seen)
once (cut k at) zero seen ts t e = let z : ◌≡◌ {A = ℕ} 0 1 = cc in absurd (omega arith)
once (cut k at) (suc n) seen ts t e = let z : ◌≡◌ {A = ℕ} 0 1 = cc in absurd (omega arith)
once (lists u at rest) n seen ts t e = by n (λ m ts'. once rest m seen ts' t) (λ m ts'. once rest m (seen ++ u ∷ []) ts' t) (among u seen) refl e
  where
    by : (n : ℕ)
        → ((m : ℕ) (ts' : List ℕ) → at_most m (different seen rest) ≡ Ok ts' → times t ts' ≡ cond (among t seen) 0 (cond (stands t rest) 1 0))
        → ((m : ℕ) (ts' : List ℕ) → at_most m (different (seen ++ u ∷ []) rest) ≡ Ok ts' → times t ts' ≡ cond (among t (seen ++ u ∷ [])) 0 (cond (stands t rest) 1 0))
        → (b : Bool) → among u seen ≡ b → at_most n (cond b (different seen rest) (lists u at (different (seen ++ u ∷ []) rest))) ≡ Ok ts
        → times t ts ≡ cond (among t seen) 0 (cond (eqb u t || stands t rest) 1 0)
    by n old new true is e = again (eqb u t) (among t seen) (stands t rest) (times t ts) (same t u seen true is) (old n ts e)
    by zero old new false is e = let z : ◌≡◌ {A = ℕ} 0 1 = cc in absurd (omega arith)
    by (suc n) old new false is e = taken t u at n seen ts rest (at_most n (different (seen ++ u ∷ []) rest)) (new n) is e

pub each_once : (v : List ℕ) → EachOnce v
unfolding wanted_tags
each_once v ts e t = once (listed_in (length v) v) 64 [] ts t e
