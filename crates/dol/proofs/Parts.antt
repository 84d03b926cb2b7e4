-- What writes to two neighbouring parts of a slice leave.
use Rattle.std.proofs.Common.{◌≡◌, ℕ, ◌+◌, ◌-◌, ◌≤◌, min, List, [], ◌++◌, length, take, drop, replicate, sym, ap, ◌∙◌, ⊎_elim, append-nil, arith, length-append, length-drop}
use borrow.Rule.Slice.PartMut.{put_mid, post_of}
use Rattle.std.proofs.lemmas.List.{take_at, drop_all, take_all, take_rest, length-take-le, length-replicate}
use Rattle.std.proofs.lemmas.Bool.{cases_lt}
use Rattle.dol.specs.Fit.{from_left, from_right}

-- `ys` in front, of length n, and then `zs` over all the rest
pub two_parts : (n : ℕ) (xs ys zs : List ℕ) → length ys ≡ n →
    put_mid n (length (ys ++ post_of 0 (n - 0) xs) - n) (ys ++ post_of 0 (n - 0) xs) zs ≡ ys ++ zs
two_parts n xs ys zs e =
    let all = ys ++ post_of 0 (n - 0) xs in
    let front : take n all ≡ ys = take_at ys (post_of 0 (n - 0) xs) n e in
    let none : post_of n (length all - n) all ≡ [] = drop_all (length all - n) (drop n all) (simp length-drop (omega arith)) in
    ap (λ l. l ++ (zs ++ post_of n (length all - n) all)) front ∙ ap (λ l. ys ++ (zs ++ l)) none ∙ ap (λ l. ys ++ l) (append-nil zs)

-- the pad in front, and then the value's right part
pub right_done : (n : ℕ) (xs v ys zs : List ℕ) → n ≡ min (length v) (length xs) →
    ys ≡ replicate (length (take (length xs - n - 0) xs)) 0 →
    zs ≡ take (length v - (length v - n)) (drop (length v - n) v) →
    put_mid (length xs - n) (length (ys ++ post_of 0 (length xs - n - 0) xs) - (length xs - n)) (ys ++ post_of 0 (length xs - n - 0) xs) zs ≡ from_right v (length xs)
right_done n xs v ys zs m y z =
    let pads : length (take (length xs - n - 0) xs) ≡ length xs - length v = length-take-le (length xs - n - 0) xs (omega arith) ∙ omega arith in
    let long : length ys ≡ length xs - n = ap length y ∙ length-replicate _ 0 ∙ pads ∙ omega arith in
    two_parts (length xs - n) xs ys zs long
    ∙ ap (λ l. l ++ zs) (y ∙ ap (λ k. replicate k 0) pads)
    ∙ ap (λ l. replicate (length xs - length v) 0 ++ l) (z ∙ take_rest v (length v - n) ∙ ap (λ k. drop k v) (omega arith))
