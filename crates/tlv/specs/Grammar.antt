-- What a text is: how its bytes are made up of objects. Nothing is said of an order of reading.
use Rattle.std.specs.Prelude.{◌≡◌, ℕ, ◌+◌, ◌*◌, ◌<◌, ◌≤◌, Bool, true, false, List, [], ◌∷◌, ◌++◌, length, slice_index, slice_index_or}
use Rattle.tlv.specs.declared.place.Place.{Place}
use Rattle.tlv.specs.Objects.{marks_more, marks_constructed}
use Rattle.tlv.specs.Series.{place, deepest, most_objects}

-- The bytes of a tag, and its number: a second byte follows a first whose low five bits are all ones, and a third
-- follows a second with bit 8 set.
pub data TagBytes : List ℕ → ℕ → Type 0 where
  one : (a : ℕ) → marks_more a ≡ false → TagBytes (a ∷ []) a
  two : (a b : ℕ) → marks_more a ≡ true → b < 128 → TagBytes (a ∷ b ∷ []) (a * 256 + b)
  three : (a b c : ℕ) → marks_more a ≡ true → 128 ≤ b → c < 128 → TagBytes (a ∷ b ∷ c ∷ []) (a * 65536 + b * 256 + c)

-- The bytes of a length: one below 80, or 81 and one byte.
pub data LengthBytes : List ℕ → ℕ → Type 0 where
  short : (n : ℕ) → n < 128 → LengthBytes (n ∷ []) n
  long : (n : ℕ) → LengthBytes (129 ∷ n ∷ []) n

-- The bytes bs, at the place p, are an object's tag, length and value, and then rest; c says whether it is constructed.
pub record Object (p : ℕ) (bs : List ℕ) (c : Bool) (t start : ℕ) (value rest : List ℕ) : Type 0 where
  pub tag_bytes : List ℕ
  pub length_bytes : List ℕ
  pub made : bs ≡ tag_bytes ++ (length_bytes ++ (value ++ rest))
  pub tagged : TagBytes tag_bytes t
  pub sized : LengthBytes length_bytes (length value)
  pub marked : marks_constructed (slice_index tag_bytes 0) ≡ c
  pub no_filler : slice_index_or tag_bytes 0 0 ≡ 0 → ⊥
  pub starts : start ≡ p + length tag_bytes + length length_bytes

-- A primitive object of a text: its tag, the place of its first byte, the place of its value, and its value.
pub record Item : Type 0 where
  pub tag : ℕ
  pub at : ℕ
  pub start : ℕ
  pub value : List ℕ

abbrev pub item : ℕ → ℕ → ℕ → List ℕ → Item
item t at start v = record { tag = t; at = at; start = start; value = v }

abbrev pub place_of : Item → Place
place_of i = place i.tag i.at i.start (length i.value)

abbrev pub places_of : List Item → List Place
places_of [] = []
places_of (i ∷ is) = place_of i ∷ places_of is

-- The bytes bs, at the place p, are a series at depth d, and is are its primitive objects: filler, and objects, of
-- which the constructed ones have a series inside.
pub data Series : ℕ → ℕ → List ℕ → List Item → Type 0 where
  nothing : (d p : ℕ) → Series d p [] []
  filler : (d p : ℕ) (bs : List ℕ) (is : List Item) → Series d (p + 1) bs is → Series d p (0 ∷ bs) is
  primitive :
      (d p t start : ℕ) (bs value rest : List ℕ) (is : List Item) →
      d ≤ deepest → Object p bs false t start value rest → Series d (start + length value) rest is →
      Series d p bs (item t p start value ∷ is)
  constructed :
      (d p t start : ℕ) (bs value rest : List ℕ) (inside is : List Item) →
      d ≤ deepest → Object p bs true t start value rest → Series (d + 1) start value inside → Series d (start + length value) rest is →
      Series d p bs (inside ++ is)

-- A text is a series at depth 1, at the place 0, with at most 64 primitive objects.
pub record Text (text : List ℕ) (is : List Item) : Type 0 where
  pub series : Series 1 0 text is
  pub few : length is ≤ most_objects
