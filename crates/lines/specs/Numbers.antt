-- Decimal numbers in a line.
use Rattle.std.specs.Prelude.{ℕ, ◌+◌, ◌-◌, ◌*◌, Bool, true, cond, ◌&&◌, ◌||◌, List, [], ◌∷◌, length, Some, None, Option, ◌==◌, nat_lt}
use Rattle.std.specs.Char.{is_ascii_digit}

-- the number that the bytes write behind the digits of n; none if one of them is no digit
abbrev pub read_on : ℕ → List ℕ → Option ℕ
read_on n [] = Some n
read_on n (c ∷ cs) = cond (is_ascii_digit c) (read_on (n * 10 + (c - 48)) cs) None

-- the number of a word: one to nine digits
abbrev pub number_in : List ℕ → Option ℕ
number_in w = cond (length w == 0 || nat_lt 9 (length w)) None (read_on 0 w)

-- a number as a byte: the largest byte in the place of a larger number
abbrev pub byte_in : Option ℕ → Option ℕ
byte_in None = None
byte_in (Some n) = cond (nat_lt n 256) (Some n) (Some 255)

-- digits alone
abbrev pub all_digits : List ℕ → Bool
all_digits [] = true
all_digits (c ∷ cs) = is_ascii_digit c && all_digits cs
