-- What is wrong with a text that is none: the first object with a fault, and the lowest fault that it has.
use Rattle.std.specs.Prelude.{◌≡◌, ℕ, ◌+◌, ◌<◌, ◌≤◌, Bool, true, false, List, [], ◌∷◌, ◌++◌, length, ◌≢◌, slice_index}
use Rattle.tlv.specs.declared.fault.FaultKind.{FaultKind}
use Rattle.tlv.specs.declared.fault.FaultKind.TheVariants.{TagCut, TagLong, BadLength, PastEnd, TooDeep, TooMany}
use Rattle.tlv.specs.Objects.{marks_more}
use Rattle.tlv.specs.Series.{deepest, most_objects}
use Rattle.tlv.specs.Grammar.{TagBytes, LengthBytes, Object, Item, Series}

-- Bytes that begin with no tag: they end within one, or its third byte has bit 8 set.
pub data NoTag : List ℕ → FaultKind → Type 0 where
  one_byte : (a : ℕ) → marks_more a ≡ true → NoTag (a ∷ []) TagCut
  two_bytes : (a b : ℕ) → marks_more a ≡ true → 128 ≤ b → NoTag (a ∷ b ∷ []) TagCut
  too_long : (a b c : ℕ) (rest : List ℕ) → marks_more a ≡ true → 128 ≤ b → 128 ≤ c → NoTag (a ∷ b ∷ c ∷ rest) TagLong

-- Bytes that begin with no length: there is none, 81 stands alone, or it is of another form.
pub data NoLength : List ℕ → Type 0 where
  none_left : NoLength []
  long_cut : NoLength (129 ∷ [])
  other_form : (n : ℕ) (rest : List ℕ) → 128 ≤ n → (n ≢ 129) → NoLength (n ∷ rest)

-- What is wrong with the object at the front of the bytes that are left of a series.
pub data Broken (bs : List ℕ) : FaultKind → Type 0 where
  no_tag : {k : FaultKind} → NoTag bs k → Broken bs k
  no_length : {t : ℕ} (tb more : List ℕ) → bs ≡ tb ++ more → TagBytes tb t → NoLength more → Broken bs BadLength
  past_end :
      {t n : ℕ} (tb lb rest : List ℕ) → bs ≡ tb ++ (lb ++ rest) → TagBytes tb t → LengthBytes lb n → length rest < n →
      Broken bs PastEnd

-- The bytes bs, at the place p, are a series at depth d after n primitive objects, and the first fault in it is k, at
-- the place q. What stands before q is filler and whole objects.
pub data Faulty : ℕ → ℕ → List ℕ → ℕ → FaultKind → ℕ → Type 0 where
  here : (d p : ℕ) (bs : List ℕ) (n : ℕ) (k : FaultKind) → (slice_index bs 0 ≢ 0) → Broken bs k → Faulty d p bs n k p
  deep :
      (d p t start : ℕ) (bs value rest : List ℕ) (c : Bool) (n : ℕ) →
      deepest < d → Object p bs c t start value rest → Faulty d p bs n TooDeep p
  many :
      (d p t start : ℕ) (bs value rest : List ℕ) (n : ℕ) →
      d ≤ deepest → most_objects ≤ n → Object p bs false t start value rest → Faulty d p bs n TooMany p
  filler : (d p : ℕ) (bs : List ℕ) (n : ℕ) (k : FaultKind) (q : ℕ) → Faulty d (p + 1) bs n k q → Faulty d p (0 ∷ bs) n k q
  after_primitive :
      (d p t start : ℕ) (bs value rest : List ℕ) (n : ℕ) (k : FaultKind) (q : ℕ) →
      d ≤ deepest → n < most_objects → Object p bs false t start value rest → Faulty d (start + length value) rest (n + 1) k q →
      Faulty d p bs n k q
  inside :
      (d p t start : ℕ) (bs value rest : List ℕ) (n : ℕ) (k : FaultKind) (q : ℕ) →
      d ≤ deepest → Object p bs true t start value rest → Faulty (d + 1) start value n k q → Faulty d p bs n k q
  after_constructed :
      (d p t start : ℕ) (bs value rest : List ℕ) (within : List Item) (n : ℕ) (k : FaultKind) (q : ℕ) →
      d ≤ deepest → n + length within ≤ most_objects → Object p bs true t start value rest → Series (d + 1) start value within →
      Faulty d (start + length value) rest (n + length within) k q → Faulty d p bs n k q
