-- What a text of BER-TLV objects means.
use Rattle.std.specs.Prelude.{ℕ, ◌+◌, ◌-◌, ◌*◌, Bool, true, false, cond, List, [], ◌∷◌, length, take, drop, ◌==◌, bit_and, nat_lt}
use Rattle.tlv.specs.declared.fault.FaultKind.{FaultKind}
use Rattle.tlv.specs.declared.fault.FaultKind.TheVariants.{TagCut, TagLong, BadLength, PastEnd, TooDeep, TooMany}

-- A tag at the front of some bytes: broken, or its number and the bytes after it.
pub data TagRead : Type 0 where
  broken : FaultKind → TagRead
  tag : ℕ → List ℕ → TagRead

-- bit 8 of a byte
abbrev pub bit8 : ℕ → Bool
bit8 b = nat_lt 127 b

-- bit 6 of a tag's first byte
abbrev pub marks_constructed : ℕ → Bool
marks_constructed b = bit_and b 32 == 32

-- the low five bits of a tag's first byte, all ones
abbrev pub marks_more : ℕ → Bool
marks_more b = bit_and b 31 == 31

abbrev pub third_byte : ℕ → ℕ → List ℕ → TagRead
third_byte a b [] = broken TagCut
third_byte a b (c ∷ rest) = cond (bit8 c) (broken TagLong) (tag (a * 65536 + b * 256 + c) rest)

abbrev pub second_byte : ℕ → List ℕ → TagRead
second_byte a [] = broken TagCut
second_byte a (b ∷ rest) = cond (bit8 b) (third_byte a b rest) (tag (a * 256 + b) rest)

abbrev pub tag_at : List ℕ → TagRead
tag_at [] = broken TagCut
tag_at (a ∷ rest) = cond (marks_more a) (second_byte a rest) (tag a rest)

-- A length at the front of some bytes: bad, or the number and the bytes after it.
pub data LengthRead : Type 0 where
  bad : LengthRead
  len : ℕ → List ℕ → LengthRead

abbrev pub long_length : List ℕ → LengthRead
long_length [] = bad
long_length (n ∷ rest) = len n rest

abbrev pub length_at : List ℕ → LengthRead
length_at [] = bad
length_at (n ∷ rest) = cond (nat_lt n 128) (len n rest) (cond (n == 129) (long_length rest) bad)

-- Bytes '00' before an object are filler.
abbrev pub skip : List ℕ → List ℕ
skip [] = []
skip (b ∷ rest) = let after = skip rest in cond (b == 0) after (b ∷ rest)

-- What stands next: the end of the series, or an object with its tag, the place of its first byte,
-- the place of its value's first byte, and its value.
pub data Seen : Type 0 where
  end : Seen
  primitive : ℕ → ℕ → ℕ → List ℕ → Seen
  constructed : ℕ → ℕ → ℕ → List ℕ → Seen

-- A fault and its place, or what stands next and the bytes of the series after it.
pub data Next : Type 0 where
  fault : FaultKind → ℕ → Next
  seen : Seen → List ℕ → Next

abbrev pub object : Bool → ℕ → ℕ → ℕ → List ℕ → Seen
object false t at start value = primitive t at start value
object true t at start value = constructed t at start value

-- e is the place just past the series, so the place of the first of some bytes that end it is e less their number.
abbrev pub sized : ℕ → ℕ → Bool → ℕ → LengthRead → Next
sized e at c t bad = fault BadLength at
sized e at c t (len n rest) = cond (nat_lt (length rest) n) (fault PastEnd at) (seen (object c t at (e - length rest) (take n rest)) (drop n rest))

abbrev pub tagged : ℕ → ℕ → Bool → TagRead → Next
tagged e at c (broken k) = fault k at
tagged e at c (tag t rest) = sized e at c t (length_at rest)

abbrev pub object_at : ℕ → List ℕ → Next
object_at e [] = seen end []
object_at e (b ∷ rest) = tagged e (e - length (b ∷ rest)) (marks_constructed b) (tag_at (b ∷ rest))

abbrev pub next_at : ℕ → List ℕ → Next
next_at e bs = object_at e (skip bs)

-- the number of each fault
abbrev pub fault_number : FaultKind → ℕ
fault_number TagCut = 1
fault_number TagLong = 2
fault_number BadLength = 3
fault_number PastEnd = 4
fault_number TooDeep = 5
fault_number TooMany = 6
