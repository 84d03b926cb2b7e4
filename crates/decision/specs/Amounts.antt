-- What a value of decimal digits, two a byte, means as a number.
use Rattle.std.specs.Prelude.{ℕ, ◌+◌, ◌-◌, ◌*◌, ◌/◌, ◌%◌, List, [], ◌∷◌, ◌++◌, length, replicate}

-- the two digits of a byte
abbrev pub two_digits : ℕ → ℕ
two_digits b = b / 16 * 10 + b % 16

-- the number whose digits so far mean n, with the digits of the bytes after them
abbrev pub digits_after : ℕ → List ℕ → ℕ
digits_after n [] = n
digits_after n (b ∷ bs) = digits_after (n * 100 + two_digits b) bs

abbrev pub decimal : List ℕ → ℕ
decimal bs = digits_after 0 bs

-- a value brought to n bytes by '00' in front, which means the same number
abbrev pub padded : ℕ → List ℕ → List ℕ
padded n v = replicate (n - length v) 0 ++ v
