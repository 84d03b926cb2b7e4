-- Digits alone, as `all` answers it.
use Rattle.std.proofs.Common.{◌≡◌, ℕ, ◌&&◌, List, [], ◌∷◌, refl, ap}
use Rattle.std.specs.Char.{is_ascii_digit}
use Rattle.std.specs.List.{list_all}
use Rattle.lines.specs.Numbers.{all_digits}

pub all_ascii_digits : (ds : List ℕ) → list_all is_ascii_digit ds ≡ all_digits ds
all_ascii_digits [] = refl
all_ascii_digits (d ∷ ds) = ap (λ t. is_ascii_digit d && t) (all_ascii_digits ds)
