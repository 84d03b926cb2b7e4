-- Taking more than there is.
use Rattle.std.proofs.Common.{◌≡◌, ℕ, min, List, length, take, sym, ◌∙◌, ⊎_elim, arith}
use Rattle.std.proofs.lemmas.List.{take_all}
use Rattle.std.proofs.lemmas.Bool.{cases_lt}

pub take_min : {X : Type 0} (m n : ℕ) (xs : List X) → m ≡ min n (length xs) → take m xs ≡ take n xs
take_min m n xs e =
    ⊎_elim
    (λ l. let h : m ≡ n = omega arith in rw h)
    (λ l. take_all m xs (omega arith) ∙ sym (take_all n xs l))
    (cases_lt n (length xs))
