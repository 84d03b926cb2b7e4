-- The first broken rule.
use Rattle.std.proofs.Common.{◌≡◌, ℕ, zero, suc, ◌+◌, ◌<◌, Bool, true, false, Some, None, Option, sym, refl, ap, ◌∙◌, ⊎_elim, arith}
use Rattle.std.proofs.lemmas.Bool.{cases_eq}
use Rattle.tlv.proofs.Steps.{by_cond}
use Rattle.judge.specs.declared.fault.ObjectFaultKind.{ObjectFaultKind}
use Rattle.judge.specs.declared.fault.ObjectFaultKind.TheVariants.{UnknownTag, OtherWriter, BadLength, BadDigits, TagTwice, HeldWithValue, AfterBegin}
use Rattle.judge.specs.Faults.{fault_number}
use Rattle.judge.specs.Rules.{lowest}

-- the fault of a number
abbrev kind_of : ℕ → ObjectFaultKind
kind_of zero = UnknownTag
kind_of (suc zero) = UnknownTag
kind_of (suc (suc zero)) = OtherWriter
kind_of (suc (suc (suc zero))) = BadLength
kind_of (suc (suc (suc (suc zero)))) = BadDigits
kind_of (suc (suc (suc (suc (suc zero))))) = TagTwice
kind_of (suc (suc (suc (suc (suc (suc zero)))))) = HeldWithValue
kind_of (suc (suc (suc (suc (suc (suc (suc n))))))) = AfterBegin

back : (q : ObjectFaultKind) → kind_of (fault_number q) ≡ q
back UnknownTag = refl
back OtherWriter = refl
back BadLength = refl
back BadDigits = refl
back TagTwice = refl
back HeldWithValue = refl
back AfterBegin = refl

numbered : (q : ObjectFaultKind) → (0 < fault_number q) × (fault_number q < 8)
numbered UnknownTag = (omega arith, omega arith)
numbered OtherWriter = (omega arith, omega arith)
numbered BadLength = (omega arith, omega arith)
numbered BadDigits = (omega arith, omega arith)
numbered TagTwice = (omega arith, omega arith)
numbered HeldWithValue = (omega arith, omega arith)
numbered AfterBegin = (omega arith, omega arith)

-- no rule of a number below n is broken
abbrev pub KeptBelow : (ObjectFaultKind → Bool) → ℕ → Type 0
KeptBelow b n = (q : ObjectFaultKind) → fault_number q < n → b q ≡ false

kept_first : (b : ObjectFaultKind → Bool) → KeptBelow b 1
kept_first b q l = absurd (omega (arith, (numbered q).0))

kept_more : (b : ObjectFaultKind → Bool) (r : ObjectFaultKind) → KeptBelow b (fault_number r) → b r ≡ false → KeptBelow b (fault_number r + 1)
kept_more b r below here q l =
    ⊎_elim
    (λ same. ap b (sym (back q) ∙ ap kind_of same ∙ back r) ∙ here)
    (λ apart. below q (omega arith))
    (cases_eq (fault_number q) (fault_number r))

-- what is the first broken rule
abbrev pub Lowest : (ObjectFaultKind → Bool) → Option ObjectFaultKind → Type 0
Lowest b None = (q : ObjectFaultKind) → b q ≡ false
Lowest b (Some r) = (b r ≡ true) × KeptBelow b (fault_number r)

pub lowest_is : (b : ObjectFaultKind → Bool) → Lowest b (lowest b)
lowest_is b =
    let k1 = kept_first b in
    by_cond (Lowest b) (b UnknownTag) _ _ (λ h. (h, k1)) (λ n1.
    let k2 = kept_more b UnknownTag k1 n1 in
    by_cond (Lowest b) (b OtherWriter) _ _ (λ h. (h, k2)) (λ n2.
    let k3 = kept_more b OtherWriter k2 n2 in
    by_cond (Lowest b) (b BadLength) _ _ (λ h. (h, k3)) (λ n3.
    let k4 = kept_more b BadLength k3 n3 in
    by_cond (Lowest b) (b BadDigits) _ _ (λ h. (h, k4)) (λ n4.
    let k5 = kept_more b BadDigits k4 n4 in
    by_cond (Lowest b) (b TagTwice) _ _ (λ h. (h, k5)) (λ n5.
    let k6 = kept_more b TagTwice k5 n5 in
    by_cond (Lowest b) (b HeldWithValue) _ _ (λ h. (h, k6)) (λ n6.
    let k7 = kept_more b HeldWithValue k6 n6 in
    by_cond (Lowest b) (b AfterBegin) _ _ (λ h. (h, k7)) (λ n7.
    let k8 = kept_more b AfterBegin k7 n7 in
    λ q. k8 q (numbered q).1)))))))
