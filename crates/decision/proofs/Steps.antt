-- Two lists share a bit exactly if some pair of their bytes does.
use Rattle.std.proofs.Common.{◌≡◌, ℕ, Bool, not, ◌||◌, eqb, List, [], ◌∷◌, refl, ap}
use Rattle.std.specs.List.{list_any, zip}
use lib.Bits.{bit_and}
use Rattle.decision.specs.Decision.{share_bit}

abbrev pub pair_shares : ℕ × ℕ → Bool
pair_shares p = not (eqb (bit_and p.0 p.1) 0)

pub any_pair : (xs ys : List ℕ) → list_any pair_shares (zip xs ys) ≡ share_bit xs ys
any_pair [] ys = refl
any_pair (x ∷ xs) [] = refl
any_pair (x ∷ xs) (y ∷ ys) = ap (λ t. not (eqb (bit_and x y) 0) || t) (any_pair xs ys)
