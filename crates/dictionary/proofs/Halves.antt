-- Half-bytes, byte by byte.
use Rattle.std.proofs.Common.{◌≡◌, ℕ, ◌/◌, ◌%◌, ◌+◌, Bool, true, false, cond, ◌&&◌, ◌||◌, eqb, ltb, List, [], ◌∷◌, length, get_or, take, drop, ◌-◌, ◌<◌, ◌≤◌, add_comm, add-one, sym, refl, ap, ◌∙◌, arith}
use Rattle.std.proofs.Math.Bool.{and_assoc}
use Rattle.std.proofs.lemmas.List.{take_all}
use Rattle.std.specs.List.{list_all, prefix_len}
use Rattle.dictionary.specs.Checks.{halves, all_digits, only_f, digits_then_f}

-- both half-bytes are digits, and both are 'F'
abbrev pub digits : ℕ → Bool
digits b = ltb (b / 16) 10 && ltb (b % 16) 10

abbrev pub full : ℕ → Bool
full b = eqb (b / 16) 15 && eqb (b % 16) 15

pub numeric : (bs : List ℕ) → list_all digits bs ≡ all_digits (halves bs)
numeric [] = refl
numeric (b ∷ bs) = and_assoc (ltb (b / 16) 10) (ltb (b % 16) 10) (list_all digits bs) ∙ ap (λ t. ltb (b / 16) 10 && (ltb (b % 16) 10 && t)) (numeric bs)

pub padding : (bs : List ℕ) → list_all full bs ≡ only_f (halves bs)
padding [] = refl
padding (b ∷ bs) = and_assoc (eqb (b / 16) 15) (eqb (b % 16) 15) (list_all full bs) ∙ ap (λ t. eqb (b / 16) 15 && (eqb (b % 16) 15 && t)) (padding bs)

-- what the bytes behind those of two digits must be: a digit or 'F', 'F', and only 'F'
abbrev pub ends : ℕ → Bool
ends b = (ltb (b / 16) 10 || eqb (b / 16) 15) && eqb (b % 16) 15

abbrev pub padded : List ℕ → Bool
padded [] = true
padded (b ∷ bs) = ends b && only_f (halves bs)

padded_at : (x y : Bool) (b n : ℕ) (bs : List ℕ) → x ≡ ltb (b / 16) 10 → padded (drop n bs) ≡ digits_then_f (halves bs) →
    padded (drop (cond (x && y) (1 + n) 0) (b ∷ bs)) ≡ cond x (cond y (digits_then_f (halves bs)) (only_f (b % 16 ∷ halves bs))) (only_f (b / 16 ∷ b % 16 ∷ halves bs))
padded_at true true b n bs e rest =
    let one : drop (1 + n) (b ∷ bs) ≡ drop n bs = ap (λ m. drop m (b ∷ bs)) (add_comm 1 n) ∙ ap (λ m. drop m (b ∷ bs)) (add-one n) in
    ap padded one ∙ rest
padded_at true false b n bs e rest =
    sym (ap (λ t. ((t || eqb (b / 16) 15) && eqb (b % 16) 15) && only_f (halves bs)) e)
padded_at false y b n bs e rest =
    sym (ap (λ t. ((t || eqb (b / 16) 15) && eqb (b % 16) 15) && only_f (halves bs)) e)
    ∙ and_assoc (eqb (b / 16) 15) (eqb (b % 16) 15) (only_f (halves bs))

pub compressed : (bs : List ℕ) → padded (drop (prefix_len digits bs) bs) ≡ digits_then_f (halves bs)
compressed [] = refl
compressed (b ∷ bs) = padded_at (ltb (b / 16) 10) (ltb (b % 16) 10) b (prefix_len digits bs) bs refl (compressed bs)

-- what stands behind the digits: nothing, or a byte that ends them and the rest
module _ (bs rest : List ℕ) (e : rest ≡ drop (prefix_len digits bs) bs) where
  told : padded rest ≡ digits_then_f (halves bs)
  told = ap padded e ∙ compressed bs

pub none : (bs rest : List ℕ) → rest ≡ drop (prefix_len digits bs) bs → length rest < 1 → true ≡ digits_then_f (halves bs)
none bs [] e l = told bs [] e
none bs (r ∷ rest) e l = absurd (omega arith)

pub some : (bs rest : List ℕ) (a p : Bool) → rest ≡ drop (prefix_len digits bs) bs → 1 ≤ length rest → a ≡ ends (get_or rest 0 0) →
    p ≡ only_f (halves (take (length rest - 1) (drop 1 rest))) → (a && p) ≡ digits_then_f (halves bs)
some bs [] a p e l f g = absurd (omega arith)
some bs (r ∷ rest) a p e l f g =
    let all : take (length (r ∷ rest) - 1) (drop 1 (r ∷ rest)) ≡ rest = take_all (length (r ∷ rest) - 1) rest (omega arith) in
    ap (λ t. t && p) f ∙ ap (λ t. ends r && t) (g ∙ ap (λ xs. only_f (halves xs)) all) ∙ told bs (r ∷ rest) e

pub stops : (bs rest : List ℕ) (a : Bool) → rest ≡ drop (prefix_len digits bs) bs → 1 ≤ length rest → a ≡ ends (get_or rest 0 0) → a ≡ false → a ≡ digits_then_f (halves bs)
stops bs rest a e l f z =
    let p = only_f (halves (take (length rest - 1) (drop 1 rest))) in
    z ∙ ap (λ t. t && p) (sym z) ∙ some bs rest a p e l f refl
