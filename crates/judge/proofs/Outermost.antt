-- The outermost objects of a series, one at a time.
use Rattle.std.proofs.Common.{◌≡◌, ℕ, zero, suc, ◌<◌, List, ◌∷◌, length, None, sym, refl, ap, ◌∙◌, subst, arith, Bor}
use Rattle.tlv.specs.declared.fault.FaultKind.{FaultKind}
use Rattle.tlv.specs.declared.token.Token.{Token}
use Rattle.tlv.specs.declared.token.Token.TheVariants.{Primitive}
use Rattle.tlv.specs.Objects.{end, primitive, constructed, Next, fault, seen, next_at}
use Rattle.tlv.specs.Series.{place}
use Rattle.tlv.specs.Told.{meant}
use Rattle.tlv.proofs.Steps.{Shorter, shorter}
use Rattle.judge.specs.Objects.{Object, plain, nested, list_next, outermost_by, outermost}
use Rattle.judge.specs.Walk.{first_built}

next_same : (f g : List ℕ → List Object) (e m : ℕ) (n : Next) → Shorter e m n → ((bs : List ℕ) → length bs < m → f bs ≡ g bs) → list_next f n ≡ list_next g n
next_same f g e m (fault k at) s h = refl
next_same f g e m (seen end rest) s h = refl
next_same f g e m (seen (primitive t at start v) rest) s h = ap (λ os. plain (place t at start (length v)) ∷ os) (h rest s.rest_less)
next_same f g e m (seen (constructed t at start v) rest) s h = ap (λ os. nested (place t at start (length v)) ∷ os) (h rest s.rest_less)

by_same : (j k e : ℕ) (bs : List ℕ) → length bs < j → length bs < k → outermost_by j e bs ≡ outermost_by k e bs
unfolding outermost_by
by_same zero k e bs h i = absurd (omega arith)
by_same (suc j) zero e bs h i = absurd (omega arith)
by_same (suc j) (suc k) e bs h i =
    next_same (outermost_by j e) (outermost_by k e) e (length bs) (next_at e bs) (shorter e bs) (λ bs' l. by_same j k e bs' (omega arith) (omega arith))

-- the rule, with no count of calls
pub outermost_rule : (e : ℕ) (bs : List ℕ) → outermost e bs ≡ list_next (outermost e) (next_at e bs)
unfolding outermost outermost_by
outermost_rule e bs =
    next_same (outermost_by (length bs) e) (outermost e) e (length bs) (next_at e bs) (shorter e bs)
    (λ bs' l. by_same (length bs) (suc (length bs')) e bs' l (omega arith))

-- a turn of the search for the first constructed object
pub at_token : (e : ℕ) (bs rest : List ℕ) (k j : Token) → k ≡ j → seen (meant k) rest ≡ next_at e bs → first_built (list_next (outermost e) (seen (meant j) rest)) ≡ first_built (outermost e bs)
at_token e bs rest k j same h =
    ap (λ x. first_built (list_next (outermost e) (seen (meant x) rest))) (sym same) ∙ ap (λ n. first_built (list_next (outermost e) n)) h ∙ ap first_built (sym (outermost_rule e bs))

pub at_fault : (e : ℕ) (bs : List ℕ) (f : FaultKind) (at : ℕ) → fault f at ≡ next_at e bs → None ≡ first_built (outermost e bs)
at_fault e bs f at h = ap (λ n. first_built (list_next (outermost e) n)) h ∙ ap first_built (sym (outermost_rule e bs))

pub rest_less : (e : ℕ) (bs rest : List ℕ) (v : Bor (List ℕ)) (k : Token) (t at start : ℕ) → k ≡ Primitive t at start v → seen (meant k) rest ≡ next_at e bs → length rest < length bs
rest_less e bs rest v k t at start same h =
    let P : Next → Type 0 = λ n. Shorter e (length bs) n in
    (subst P (sym (ap (λ x. seen (meant x) rest) (sym same) ∙ h)) (shorter e bs)).rest_less
