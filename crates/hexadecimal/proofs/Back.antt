-- What is shown reads back.
use Rattle.std.proofs.Common.{◌≡◌, ℕ, suc, ◌+◌, ◌-◌, ◌*◌, ◌/◌, ◌%◌, ◌<◌, ◌≤◌, false, List, [], ◌∷◌, ◌++◌, get_or, Some, None, sym, ap, ◌∙◌, ⊎_elim, append_assoc, append-nil, arith}
use Rattle.std.proofs.lemmas.Bool.{lt-ltb, le-ltb, ne_eqb, cases_lt}
use Rattle.hexadecimal.specs.Digits.{is_blank, digit_of, bytes_from, bytes_of, digit, shown}

record Digit (d c : ℕ) : Type 0 where
  no_blank : is_blank c ≡ false
  value : digit_of c ≡ Some d

low : (d : ℕ) → d < 10 → Digit d (48 + d)
low d h =
    let back : 48 + d - 48 ≡ d = omega arith in
    record {
      no_blank = rw (ne_eqb (48 + d) 32 (λ e. omega arith), ne_eqb (48 + d) 9 (λ e. omega arith), ne_eqb (48 + d) 13 (λ e. omega arith));
      value = rw (lt-ltb 47 (48 + d) (omega arith), lt-ltb (48 + d) 58 (omega arith), back);
    }

high : (d : ℕ) → 10 ≤ d → d < 16 → Digit d (55 + d)
high d l h =
    let back : 55 + d - 65 + 10 ≡ d = omega arith in
    record {
      no_blank = rw (ne_eqb (55 + d) 32 (λ e. omega arith), ne_eqb (55 + d) 9 (λ e. omega arith), ne_eqb (55 + d) 13 (λ e. omega arith));
      value = rw (lt-ltb 47 (55 + d) (omega arith), le-ltb (55 + d) 58 (omega arith), lt-ltb 64 (55 + d) (omega arith), lt-ltb (55 + d) 71 (omega arith), back);
    }

of_digit : (d : ℕ) → d < 16 → Digit d (digit d)
of_digit d h = ⊎_elim (λ l. rw (lt-ltb d 10 l) (low d l)) (λ l. rw (le-ltb d 10 l) (high d l h)) (cases_lt d 10)

back_from : (bs done : List ℕ) → ((i : ℕ) → get_or bs i 0 < 256) → bytes_from (shown bs) done None ≡ Some (done ++ bs)
back_from [] done h = ap Some (sym (append-nil done))
back_from (b ∷ bs) done h =
    let small = h 0 in
    let one = of_digit (b / 16) (omega arith) in
    let two = of_digit (b % 16) (omega arith) in
    let byte : b / 16 * 16 + b % 16 ≡ b = omega arith in
    rw (one.no_blank, one.value, two.no_blank, two.value, byte)
    (back_from bs (done ++ b ∷ []) (λ i. h (suc i)) ∙ ap Some (append_assoc done (b ∷ []) bs))

pub back : (bs : List ℕ) → ((i : ℕ) → get_or bs i 0 < 256) → bytes_of (shown bs) ≡ Some bs
back bs h = back_from bs [] h
