-- What a value must be to be held under an entry of the dictionary.
use Rattle.std.specs.Prelude.{ℕ, ◌/◌, ◌%◌, Bool, true, cond, ◌&&◌, ◌||◌, List, [], ◌∷◌, ◌==◌, nat_le, nat_lt}
use Rattle.dictionary.specs.declared.entry.Entry.{Entry}
use Rattle.dictionary.specs.declared.entry.Format.{Format}
use Rattle.dictionary.specs.declared.entry.Format.TheVariants.{Numeric, CompressedNumeric, Alphanumeric, AlphanumericSpecial, Binary}

-- an empty value is always allowed, any other from the least to the most bytes
abbrev pub fits_length : Entry → ℕ → Bool
fits_length e n = n == 0 || (nat_le e.least n && nat_le n e.most)

-- the half-bytes of a value, the high one of each byte first
abbrev pub halves : List ℕ → List ℕ
halves [] = []
halves (b ∷ bs) = b / 16 ∷ b % 16 ∷ halves bs

-- every half-byte is a decimal digit
abbrev pub all_digits : List ℕ → Bool
all_digits [] = true
all_digits (h ∷ hs) = nat_lt h 10 && all_digits hs

-- every half-byte is 'F'
abbrev pub only_f : List ℕ → Bool
only_f [] = true
only_f (h ∷ hs) = h == 15 && only_f hs

-- decimal digits, then only 'F' to the end
abbrev pub digits_then_f : List ℕ → Bool
digits_then_f [] = true
digits_then_f (h ∷ hs) = cond (nat_lt h 10) (digits_then_f hs) (only_f (h ∷ hs))

-- the digits that a format asks for
abbrev pub fits_format : Format → List ℕ → Bool
fits_format Numeric v = all_digits (halves v)
fits_format CompressedNumeric v = digits_then_f (halves v)
fits_format Alphanumeric v = true
fits_format AlphanumericSpecial v = true
fits_format Binary v = true
