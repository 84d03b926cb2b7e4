-- Laws of masked bytes.
use Rattle.std.proofs.Common.{◌≡◌, ℕ, zero, suc, ◌+◌, ◌%◌, ◌<◌, List, [], ◌∷◌, ◌++◌, length, get_or, take, drop, set, sym, refl, ap, ◌∙◌, add-zero, arith}
use lib.Bits.{bit_xor, xor_assoc, xor_self, xor_zero_r}
use Rattle.std.proofs.lemmas.List.{get_or_at, take_more, drop_more, set_at, append_assoc, length-take-le}
use Rattle.masking.specs.Mask.{masked, MaskedBytes}
use Rattle.masking.specs.Masks.{length_masked}

xor_twice : (a b : ℕ) → bit_xor (bit_xor a b) b ≡ a
xor_twice a b = xor_assoc a b b ∙ ap (bit_xor a) (xor_self b) ∙ xor_zero_r a

pub masked_masked : (pad : List ℕ) (t : ℕ) (xs : List ℕ) → masked pad t (masked pad t xs) ≡ xs
masked_masked pad t [] = refl
masked_masked pad t (x ∷ xs) =
    let a = xor_twice x (get_or pad (t % 256) 0) in let b = masked_masked pad (t + 1) xs in cc

pub masked_push : (pad : List ℕ) (t : ℕ) (xs : List ℕ) (x : ℕ)
    → masked pad t (xs ++ x ∷ []) ≡ masked pad t xs ++ bit_xor x (get_or pad ((t + length xs) % 256) 0) ∷ []
masked_push pad t [] x = ap (λ j. bit_xor x (get_or pad (j % 256) 0) ∷ []) (sym (add-zero t))
masked_push pad t (y ∷ ys) x =
    let a = masked_push pad (t + 1) ys x in
    let b : t + 1 + length ys ≡ t + suc (length ys) = omega arith in
    ap (λ zs. bit_xor y (get_or pad (t % 256) 0) ∷ zs)
    (a ∙ ap (λ j. masked pad (t + 1) ys ++ bit_xor x (get_or pad (j % 256) 0) ∷ []) b)

-- one turn of a loop that masks in place
pub masked_more : (pad : List ℕ) (t : ℕ) (xs ys : List ℕ) (i : ℕ) → i < length xs
    → ys ≡ masked pad t (take i xs) ++ drop i xs
    → set ys i (bit_xor (get_or xs i 0) (get_or pad ((t + i) % 256) 0)) ≡ masked pad t (take (i + 1) xs) ++ drop (i + 1) xs
masked_more pad t xs ys i l e =
    let b : ℕ = bit_xor (get_or xs i 0) (get_or pad ((t + i) % 256) 0) in
    let n : length (take i xs) ≡ i = length-take-le i xs (omega arith) in
    let p : length (masked pad t (take i xs)) ≡ i = length_masked pad t (take i xs) ∙ n in
    let q = masked_push pad t (take i xs) (get_or xs i 0) in
    ap (λ zs. set zs i b) (e ∙ ap (λ zs. masked pad t (take i xs) ++ zs) (drop_more xs i 0 l))
    ∙ set_at (masked pad t (take i xs)) (get_or xs i 0) (drop (i + 1) xs) b i p
    ∙ sym (append_assoc (masked pad t (take i xs)) (b ∷ []) (drop (i + 1) xs))
    ∙ ap (λ zs. zs ++ drop (i + 1) xs)
    (sym (ap (masked pad t) (take_more xs i 0 l) ∙ q
    ∙ ap (λ j. masked pad t (take i xs) ++ bit_xor (get_or xs i 0) (get_or pad ((t + j) % 256) 0) ∷ []) n))

-- the same turn, as the code has it
pub masked_turn : (pad : List ℕ) (t : ℕ) (xs ys : List ℕ) (i b : ℕ) → i < length xs
    → ys ≡ masked pad t (take i xs) ++ drop i xs → b ≡ get_or pad ((i + t) % 256) 0
    → set ys i (bit_xor (get_or ys i 0) b) ≡ masked pad t (take (i + 1) xs) ++ drop (i + 1) xs
masked_turn pad t xs ys i b l e eb =
    let n : length (masked pad t (take i xs)) ≡ i = length_masked pad t (take i xs) ∙ length-take-le i xs (omega arith) in
    let a : get_or ys i 0 ≡ get_or xs i 0 =
    ap (λ zs. get_or zs i 0) (e ∙ ap (λ zs. masked pad t (take i xs) ++ zs) (drop_more xs i 0 l))
    ∙ get_or_at (masked pad t (take i xs)) (get_or xs i 0) (drop (i + 1) xs) 0 i n in
    let j : (i + t) % 256 ≡ (t + i) % 256 = omega arith in
    ap (λ v. set ys i (bit_xor v b)) a
    ∙ ap (λ v. set ys i (bit_xor (get_or xs i 0) v)) (eb ∙ ap (λ k. get_or pad k 0) j)
    ∙ masked_more pad t xs ys i l e

-- byte i of a masked value
masked_byte : (pad : List ℕ) (t : ℕ) (v : List ℕ) (i : ℕ) → i < length v → get_or (masked pad t v) i 0 ≡ bit_xor (get_or v i 0) (get_or pad ((i + t) % 256) 0)
masked_byte pad t [] i l = absurd (omega arith)
masked_byte pad t (x ∷ xs) zero l = let j : t % 256 ≡ (zero + t) % 256 = omega arith in ap (λ k. bit_xor x (get_or pad k 0)) j
masked_byte pad t (x ∷ xs) (suc i) l =
    let j : (i + (t + 1)) % 256 ≡ (suc i + t) % 256 = omega arith in
    masked_byte pad (t + 1) xs i (omega arith) ∙ ap (λ k. bit_xor (get_or xs i 0) (get_or pad k 0)) j

pub masked_bytes : (pad : List ℕ) (t : ℕ) (v : List ℕ) → MaskedBytes pad t v
masked_bytes pad t v = record { long = length_masked pad t v; bytes = masked_byte pad t v; again = masked_masked pad t v }
