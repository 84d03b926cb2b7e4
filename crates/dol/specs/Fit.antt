-- A value at the length that a data object list asks for.
use Rattle.std.specs.Prelude.{ℕ, ◌-◌, List, ◌++◌, length, take, drop, replicate}
use Rattle.dictionary.specs.declared.entry.Format.{Format}
use Rattle.dictionary.specs.declared.entry.Format.TheVariants.{Numeric, CompressedNumeric, Alphanumeric, AlphanumericSpecial, Binary}

-- cut on the left, or padded with '00' in front
abbrev pub from_right : List ℕ → ℕ → List ℕ
from_right v n = replicate (n - length v) 0 ++ drop (length v - n) v

-- cut on the right, or padded behind
abbrev pub from_left : ℕ → List ℕ → ℕ → List ℕ
from_left pad v n = take n v ++ replicate (n - length v) pad

-- format n keeps its right end; cn is padded with 'FF', the others with '00'
abbrev pub fitted : Format → List ℕ → ℕ → List ℕ
fitted Numeric v n = from_right v n
fitted CompressedNumeric v n = from_left 0xFF v n
fitted Alphanumeric v n = from_left 0 v n
fitted AlphanumericSpecial v n = from_left 0 v n
fitted Binary v n = from_left 0 v n
