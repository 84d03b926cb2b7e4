-- Numbers of decimal digits are compared byte by byte: a lead of two or more is never lost, since the two digits of a
-- byte mean at most 165.
use Rattle.std.proofs.Common.{◌≡◌, ℕ, zero, suc, ◌+◌, ◌-◌, ◌*◌, ◌<◌, ◌≤◌, true, false, ltb, List, [], ◌∷◌, ◌++◌, length, get_or, drop, replicate, sym, subst, refl, ap, ◌∙◌, arith, length-drop}
use Rattle.std.specs.Prelude.{ℤ, pos, negsuc, ◌-ℤ◌, ◌+ℤ◌, ◌*ℤ◌, ◌<ℤ◌}
use Rattle.std.specs.List.{zip}
use lib.Signed.{lt_z}
use Rattle.std.proofs.lemmas.Slice.Zip.{length-zip, get_or-zip}
use Rattle.std.proofs.lemmas.Int.{ints}
use Rattle.std.proofs.lemmas.List.{at_drop_more, at_drop_all, get_or-drop, length-append, length-replicate}
use Rattle.std.proofs.lemmas.Bool.{lt-ltb, le-ltb}
use Rattle.decision.specs.Amounts.{two_digits, digits_after, decimal, padded}

-- each of them is a byte
abbrev pub Bytes : List ℕ → Type 0
Bytes xs = (k : ℕ) → get_or xs k 0 < 256

bytes_drop : (i : ℕ) (xs : List ℕ) → Bytes xs → Bytes (drop i xs)
bytes_drop i xs b = λ k. let e = get_or-drop i xs k 0 in omega (arith, e, b (i + k))

bytes_zeros : (m : ℕ) (v : List ℕ) → Bytes v → Bytes (replicate m 0 ++ v)
bytes_zeros zero v b k = b k
bytes_zeros (suc m) v b zero = omega arith
bytes_zeros (suc m) v b (suc k) = bytes_zeros m v b k

pub bytes_padded : (n : ℕ) (v : List ℕ) → Bytes v → Bytes (padded n v)
bytes_padded n v b = bytes_zeros (n - length v) v b

decimal_zeros : (m : ℕ) (v : List ℕ) → decimal (replicate m 0 ++ v) ≡ decimal v
decimal_zeros zero v = refl
decimal_zeros (suc m) v = decimal_zeros m v

-- zeros in front mean nothing
pub decimal_padded : (n : ℕ) (v : List ℕ) → decimal (padded n v) ≡ decimal v
decimal_padded n v = decimal_zeros (n - length v) v

-- so padded numbers have the same order
pub same_order : (n : ℕ) (v w : List ℕ) → ltb (decimal (padded n w)) (decimal (padded n v)) ≡ ltb (decimal w) (decimal v)
same_order n v w = ap (λ m. ltb m (decimal (padded n v))) (decimal_padded n w) ∙ ap (ltb (decimal w)) (decimal_padded n v)

pub length_padded : (n : ℕ) (v : List ℕ) → length v ≤ n → length (padded n v) ≡ n
length_padded n v h = length-append (replicate (n - length v) 0) v ∙ ap (λ m. m + length v) (length-replicate (n - length v) 0) ∙ omega arith

ahead : (h l : ℕ) (xs ys : List ℕ) → l + 1 < h → length xs ≡ length ys → Bytes ys → digits_after l ys < digits_after h xs
ahead h l [] [] less e b = omega arith
ahead h l [] (y ∷ ys) less e b = absurd (omega arith)
ahead h l (x ∷ xs) [] less e b = absurd (omega arith)
ahead h l (x ∷ xs) (y ∷ ys) less e b =
    let small : y < 256 = b 0 in
    ahead (h * 100 + two_digits x) (l * 100 + two_digits y) xs ys (omega (arith, small)) (omega arith) (λ k. b (suc k))

-- what the digits so far mean, and by how much the first is ahead
pub record Level (xs ys : List ℕ) (i : ℕ) (lead : ℤ) : Type 0 where
  pub first : ℕ
  pub second : ℕ
  pub left : digits_after first (drop i xs) ≡ decimal xs
  pub right : digits_after second (drop i ys) ≡ decimal ys
  pub is : lead ≡ pos first -ℤ pos second

pub level_none : (xs ys : List ℕ) → Level xs ys 0 (pos 0)
level_none xs ys = record { first = 0; second = 0; left = refl; right = refl; is = omega (arith, ints) }

next : (n : ℕ) (xs : List ℕ) (i x : ℕ) → i < length xs → x ≡ get_or xs i x → digits_after (n * 100 + two_digits x) (drop (i + 1) xs) ≡ digits_after n (drop i xs)
next n xs i x h e =
    ap (λ d. digits_after (n * 100 + two_digits d) (drop (i + 1) xs)) e ∙ sym (at_drop_more (digits_after n) xs i x h)

-- the next byte of each
pub level_more : (xs ys : List ℕ) (i j x y : ℕ) (lead to : ℤ) → length ys ≡ length xs → j ≡ i + 1 →
    (i < length (zip xs ys)) × (◌≡◌ {A = ℕ × ℕ} (x, y) (get_or (zip xs ys) i (x, y))) → Level xs ys i lead →
    to ≡ ((lead *ℤ pos 100) +ℤ pos (two_digits x)) -ℤ pos (two_digits y) → Level xs ys j to
level_more xs ys i j x y lead to same one turn level e = subst (λ t. Level xs ys t to) (sym one) (
    let l : length (zip xs ys) ≡ length xs = length-zip xs ys ∙ omega arith in
    let p : i < length xs = omega (arith, turn.0, l) in
    let q : i < length ys = omega (arith, p, same) in
    let pair = turn.1 ∙ get_or-zip xs ys i (x, y) p q in
    record {
      first = level.first * 100 + two_digits x;
      second = level.second * 100 + two_digits y;
      left = next level.first xs i x p (ap (λ (t : ℕ × ℕ). t.0) pair) ∙ level.left;
      right = next level.second ys i y q (ap (λ (t : ℕ × ℕ). t.1) pair) ∙ level.right;
      is = let h = level.is in omega (arith, ints, e, h);
    })

-- a lead of two decides
pub level_above : (n : ℕ) (v w : List ℕ) (i : ℕ) (lead : ℤ) → length (padded n w) ≡ length (padded n v) → Bytes w →
    Level (padded n v) (padded n w) i lead → pos 1 <ℤ lead → true ≡ ltb (decimal w) (decimal v)
level_above n v w i lead same small level more =
    let e = level.is in
    let less : level.second + 1 < level.first = omega (arith, ints, e, more) in
    let rest : length (drop i (padded n v)) ≡ length (drop i (padded n w)) = length-drop i (padded n v) ∙ omega arith ∙ sym (length-drop i (padded n w)) in
    let far = ahead level.first level.second (drop i (padded n v)) (drop i (padded n w)) less rest (bytes_drop i (padded n w) (bytes_padded n w small)) in
    sym (lt-ltb (decimal (padded n w)) (decimal (padded n v)) (omega (arith, far, level.left, level.right))) ∙ same_order n v w

pub level_below : (n : ℕ) (v w : List ℕ) (i : ℕ) (lead : ℤ) → length (padded n w) ≡ length (padded n v) → Bytes v →
    Level (padded n v) (padded n w) i lead → lead <ℤ negsuc 0 → false ≡ ltb (decimal w) (decimal v)
level_below n v w i lead same small level less =
    let e = level.is in
    let more : level.first + 1 < level.second = omega (arith, ints, e, less) in
    let rest : length (drop i (padded n w)) ≡ length (drop i (padded n v)) = length-drop i (padded n w) ∙ omega arith ∙ sym (length-drop i (padded n v)) in
    let far = ahead level.second level.first (drop i (padded n w)) (drop i (padded n v)) more rest (bytes_drop i (padded n v) (bytes_padded n v small)) in
    sym (le-ltb (decimal (padded n w)) (decimal (padded n v)) (omega (arith, far, level.left, level.right))) ∙ same_order n v w

-- at the end any lead decides
pub level_all : (n : ℕ) (v w : List ℕ) (i : ℕ) (lead : ℤ) → length (padded n w) ≡ length (padded n v) → i ≡ length (zip (padded n v) (padded n w)) →
    Level (padded n v) (padded n w) i lead → lt_z (pos 0) lead ≡ ltb (decimal w) (decimal v)
level_all n v w i lead same end level =
    let l : i ≡ length (padded n v) = end ∙ length-zip (padded n v) (padded n w) ∙ omega arith in
    let p : level.first ≡ decimal (padded n v) = sym (at_drop_all (digits_after level.first) (padded n v) i (omega (arith, l))) ∙ level.left in
    let q : level.second ≡ decimal (padded n w) = sym (at_drop_all (digits_after level.second) (padded n w) i (omega (arith, l))) ∙ level.right in
    let e = level.is in
    let ends : lt_z (pos 0) lead ≡ ltb (decimal (padded n w)) (decimal (padded n v)) = grind (arith, ints, e, p, q) in
    ends ∙ same_order n v w
