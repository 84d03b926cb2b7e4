-- An element of another key than all of a list keeps its elements apart.
use Rattle.std.proofs.Common.{◌≡◌, ℕ, zero, suc, ◌+◌, ◌<◌, Bool, true, false, ◌||◌, List, [], ◌∷◌, ◌++◌, length, get_or, sym, refl, ap, ◌∙◌, ⊎_elim, arith}
use Rattle.std.proofs.lemmas.List.{length_push, get_or_push, get_or_append_left}
use Rattle.std.proofs.lemmas.Bool.{cases_lt, or_parts}
use Rattle.std.proofs.Math.Bool.{or-true}
use Rattle.std.specs.Cmp.{both_ways}
use Rattle.keyed.specs.Keys.{holds, Distinct}

contrary : (a b : Bool) → (a ≡ true → b ≡ true) → b ≡ false → a ≡ false
contrary true b f h = sym (f refl) ∙ h
contrary false b f h = refl

module _ {X : Type 0} (same : X → X → Bool) where
  -- where no element has the key of x, each has another
  pub other_keys : (xs : List X) (x : X) → holds same xs x ≡ false → (k : ℕ) (d : X) → k < length xs → same (get_or xs k d) x ≡ false
  other_keys [] x h k d l = absurd (omega arith)
  other_keys (y ∷ ys) x h zero d l = (or_parts (same y x) (holds same ys x) h).0
  other_keys (y ∷ ys) x h (suc k) d l = other_keys ys x (or_parts (same y x) (holds same ys x) h).1 k d (omega arith)

  module _ (symmetric : (x y : X) → same x y ≡ true → same y x ≡ true) where
    pub distinct_push : (xs : List X) (x : X) → Distinct same xs → holds same xs x ≡ false → Distinct same (xs ++ x ∷ [])
    distinct_push xs x apart none i j d hi hj ne =
        let n : length (xs ++ x ∷ []) ≡ length xs + 1 = length_push xs x in
        let other = other_keys xs x none in
        ⊎_elim
        (λ i<. let ei = get_or_append_left xs (x ∷ []) d i i< in
        ⊎_elim
        (λ j<. rw (ei, get_or_append_left xs (x ∷ []) d j j<) (apart i j d i< j< ne))
        (λ j≥. let e : length xs ≡ j = omega arith in rw (ei, get_or_push xs x d j e) (other i d i<))
        (cases_lt j (length xs)))
        (λ i≥. let e : length xs ≡ i = omega arith in
        ⊎_elim
        (λ j<. rw (get_or_push xs x d i e, get_or_append_left xs (x ∷ []) d j j<)
        (contrary (same x (get_or xs j d)) (same (get_or xs j d) x) (symmetric x (get_or xs j d)) (other j d j<)))
        (λ j≥. absurd (ne (omega arith)))
        (cases_lt j (length xs)))
        (cases_lt i (length xs))

  -- an element that was added is there
  pub holds_push : ((x : X) → same x x ≡ true) → (xs : List X) (x : X) → holds same (xs ++ x ∷ []) x ≡ true
  holds_push reflexive [] x = ap (λ b. b || false) (reflexive x)
  holds_push reflexive (y ∷ ys) x = ap (λ b. same y x || b) (holds_push reflexive ys x) ∙ or-true (same y x)

  -- equal keys are held alike
  module _ (symmetric : (x y : X) → same x y ≡ true → same y x ≡ true) (transitive : (x y z : X) → same x y ≡ true → same y z ≡ true → same x z ≡ true) where
    pub holds_alike : (xs : List X) (x y : X) → same x y ≡ true → holds same xs x ≡ holds same xs y
    holds_alike [] x y e = refl
    holds_alike (z ∷ zs) x y e =
        let alike : same z x ≡ same z y =
        both_ways (same z x) (same z y) (λ h. transitive z x y h e) (λ h. transitive z y x h (symmetric x y e)) in
        ap (λ b. b || holds same zs x) alike ∙ ap (λ b. same z y || b) (holds_alike zs x y e)
