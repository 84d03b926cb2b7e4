-- Bytes as hexadecimal digits: characters by their ASCII codes.
use Rattle.std.specs.Prelude.{ℕ, ◌+◌, ◌-◌, ◌*◌, ◌/◌, ◌%◌, Bool, true, cond, ◌&&◌, ◌||◌, List, [], ◌∷◌, ◌++◌, Some, None, Option, ◌==◌, nat_lt}

-- a space, a tab, or the carriage return of a line that ends with one
abbrev pub is_blank : ℕ → Bool
is_blank c = c == 32 || (c == 9 || c == 13)

-- the value of a digit, of either case
abbrev pub digit_of : ℕ → Option ℕ
digit_of c =
    cond (nat_lt 47 c && nat_lt c 58) (Some (c - 48))
    (cond (nat_lt 64 c && nat_lt c 71) (Some (c - 65 + 10))
    (cond (nat_lt 96 c && nat_lt c 103) (Some (c - 97 + 10)) None))

-- a first digit that waits for the second, if any, is below 16
abbrev pub is_half : Option ℕ → Bool
is_half None = true
is_half (Some h) = nat_lt h 16

-- The bytes of a text: blanks are passed over, and each two digits are a byte. There are none where another character
-- stands, or a digit is left over. The bytes read so far and a first digit that waits for the second go before.
abbrev pub with_digit : List ℕ → Option ℕ → Option ℕ → (List ℕ → Option ℕ → Option (List ℕ)) → Option (List ℕ)
with_digit done half None next = None
with_digit done None (Some d) next = next done (Some d)
with_digit done (Some h) (Some d) next = next (done ++ (h * 16 + d) ∷ []) None

abbrev pub whole : List ℕ → Option ℕ → Option (List ℕ)
whole done None = Some done
whole done (Some h) = None

abbrev pub bytes_from : List ℕ → List ℕ → Option ℕ → Option (List ℕ)
bytes_from [] done half = whole done half
bytes_from (c ∷ cs) done half = cond (is_blank c) (bytes_from cs done half) (with_digit done half (digit_of c) (bytes_from cs))

abbrev pub bytes_of : List ℕ → Option (List ℕ)
bytes_of cs = bytes_from cs [] None

-- the digit of a value below 16, in upper case
abbrev pub digit : ℕ → ℕ
digit d = cond (nat_lt d 10) (48 + d) (55 + d)

-- the digits of bytes, two for each
abbrev pub shown : List ℕ → List ℕ
shown [] = []
shown (b ∷ bs) = digit (b / 16) ∷ digit (b % 16) ∷ shown bs

-- the same, and '-' for no bytes
abbrev pub written : List ℕ → List ℕ
written [] = 45 ∷ []
written (b ∷ bs) = shown (b ∷ bs)
