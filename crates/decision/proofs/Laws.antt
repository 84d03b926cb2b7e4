-- A higher amount never makes the decision milder.
use Rattle.std.proofs.Common.{◌≡◌, ℕ, ◌≤◌, Bool, true, false, cond, not, eqb, ltb, List, [], ◌∷◌, sym, refl, subst, arith}
use lib.Bits.{bit_and}
use Rattle.std.proofs.lemmas.Bool.{false≢true, ltb-true, lt-ltb, or_right}
use Rattle.decision.specs.declared.cryptogram.Cryptogram.{Cryptogram}
use Rattle.decision.specs.declared.cryptogram.Cryptogram.TheVariants.{Aac, Tc, Arqc}
use Rattle.decision.specs.Amounts.{decimal}
use Rattle.decision.specs.Decision.{share_bit, online_only, offline_only}
use Rattle.decision.specs.Laws.{NeverMilder}

-- the decision by the answers to its four questions
abbrev by_answers : Bool → Bool → Bool → Bool → Cryptogram
by_answers denied online offline asked = cond denied Aac (cond online Arqc (cond offline Tc (cond asked Arqc Tc)))

-- more shared bits never make it milder
milder : (d e a b on off : Bool) → (d ≡ true → e ≡ true) → (a ≡ true → b ≡ true) →
    (by_answers e on off b ≡ Tc → by_answers d on off a ≡ Tc) × (by_answers d on off a ≡ Aac → by_answers e on off b ≡ Aac)
milder d true a b on off h k = (λ t. absurd (let z : ◌≡◌ {A = ℕ} 0 1 = cc in omega arith), λ _. refl)
milder true false a b on off h k = absurd (false≢true (h refl))
milder false false a b true off h k = (λ t. t, λ t. t)
milder false false a b false true h k = (λ t. t, λ t. t)
milder false false true true false false h k = (λ t. t, λ t. t)
milder false false false true false false h k = (λ t. absurd (let z : ◌≡◌ {A = ℕ} 0 1 = cc in omega arith), λ t. absurd (let z : ◌≡◌ {A = ℕ} 0 1 = cc in omega arith))
milder false false true false false false h k = absurd (false≢true (k refl))
milder false false false false false false h k = (λ t. t, λ t. t)

-- the bit alone, set or not
abbrev with_bit : Bool → List ℕ
with_bit over = 0 ∷ 0 ∷ 0 ∷ cond over 0x80 0 ∷ 0 ∷ []

-- what shares a bit with fewer shares one with more
kept_bit : (o p : Bool) → (o ≡ true → p ≡ true) → (code : List ℕ) → share_bit (with_bit o) code ≡ true → share_bit (with_bit p) code ≡ true
kept_bit true p h code k = subst (λ t. share_bit (with_bit t) code ≡ true) (sym (h refl)) k
kept_bit false false h code k = k
kept_bit false true h [] k = k
kept_bit false true h (a ∷ []) k = k
kept_bit false true h (a ∷ b ∷ []) k = k
kept_bit false true h (a ∷ b ∷ c ∷ []) k = k
kept_bit false true h (a ∷ b ∷ c ∷ d ∷ code) k = or_right (not (eqb (bit_and 0x80 d) 0)) (share_bit (0 ∷ []) code) k

over_too : (amount higher floor : List ℕ) → decimal amount ≤ decimal higher → ltb (decimal floor) (decimal amount) ≡ true → ltb (decimal floor) (decimal higher) ≡ true
over_too amount higher floor le h = lt-ltb (decimal floor) (decimal higher) (omega (arith, ltb-true (decimal floor) (decimal amount) h))

pub never_milder : (amount floor : List ℕ) → NeverMilder amount floor
never_milder amount floor higher denial online terminal le =
    let o = ltb (decimal floor) (decimal amount) in
    let p = ltb (decimal floor) (decimal higher) in
    let h : o ≡ true → p ≡ true = over_too amount higher floor le in
    milder (share_bit (with_bit o) denial) (share_bit (with_bit p) denial) (share_bit (with_bit o) online) (share_bit (with_bit p) online)
    (online_only terminal) (offline_only terminal) (kept_bit o p h denial) (kept_bit o p h online)
