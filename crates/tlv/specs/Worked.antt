-- Texts met at pumps, and texts at the edges of the limits, with what they mean.
use Rattle.std.specs.Prelude.{◌≡◌, ℕ, zero, suc, ◌+◌, List, [], ◌∷◌}
use Rattle.std.specs.List.{AllByRecursion}
use Rattle.tlv.specs.declared.fault.FaultKind.{FaultKind}
use Rattle.tlv.specs.declared.fault.FaultKind.TheVariants.{TagCut, TagLong, BadLength, PastEnd, TooDeep, TooMany}
use Rattle.tlv.specs.declared.place.Place.{Place}
use Rattle.tlv.specs.Series.{wrong, found, place, meaning}
use Rattle.tlv.specs.Values.{value_at}
use Rattle.tlv.specs.Grammar.{Item, item, place_of, places_of}

-- A text with its primitive objects, with their places alone, or with its fault and the place of that.
pub data Row : Type 0 where
  objects : List ℕ → List Item → Row
  places : List ℕ → List Place → Row
  faulty : List ℕ → FaultKind → ℕ → Row

-- the text of a row means what the row says, and each object's value stands at its place
abbrev pub Holds : Row → Type 0
Holds (objects text is) = (meaning text ≡ found (places_of is)) × AllByRecursion (λ i. value_at text (place_of i) ≡ i.value) is
Holds (places text ps) = meaning text ≡ found ps
Holds (faulty text k at) = meaning text ≡ wrong k at

-- n empty labels, one after the other, and their places, from the place p on
abbrev pub labels : ℕ → List ℕ
labels zero = []
labels (suc n) = 0x50 ∷ 0x00 ∷ labels n

abbrev pub label_places : ℕ → ℕ → List Place
label_places zero p = []
label_places (suc n) p = place 0x50 p (p + 2) 0 ∷ label_places n (p + 2)

abbrev pub table : List Row
table =
    -- an empty Application Label is an object
    objects (0x50 ∷ 0x00 ∷ []) (item 0x50 0 2 [] ∷ [])
    -- a length of two bytes where one would do
    ∷ objects (0x5f ∷ 0x34 ∷ 0x81 ∷ 0x01 ∷ 0x03 ∷ []) (item 0x5f34 0 4 (0x03 ∷ []) ∷ [])
    ∷ faulty (0x9f ∷ []) TagCut 0
    ∷ faulty (0x9f ∷ 0x81 ∷ 0x81 ∷ 0x01 ∷ 0x00 ∷ []) TagLong 0
    ∷ faulty (0x50 ∷ 0x82 ∷ 0x00 ∷ 0x01 ∷ 0x41 ∷ []) BadLength 0
    ∷ faulty (0x50 ∷ 0x03 ∷ 0x41 ∷ 0x42 ∷ []) PastEnd 0
    -- filler before and behind
    ∷ objects (0x00 ∷ 0x00 ∷ 0x50 ∷ 0x00 ∷ 0x00 ∷ []) (item 0x50 2 4 [] ∷ [])
    -- a record template
    ∷ objects (0x70 ∷ 0x07 ∷ 0x50 ∷ 0x02 ∷ 0x41 ∷ 0x42 ∷ 0x5a ∷ 0x01 ∷ 0x12 ∷ []) (item 0x50 2 4 (0x41 ∷ 0x42 ∷ []) ∷ item 0x5a 6 8 (0x12 ∷ []) ∷ [])
    -- depth 5 and 6
    ∷ objects (0x70 ∷ 0x0a ∷ 0x70 ∷ 0x08 ∷ 0x70 ∷ 0x06 ∷ 0x70 ∷ 0x04 ∷ 0x50 ∷ 0x02 ∷ 0x41 ∷ 0x42 ∷ []) (item 0x50 8 10 (0x41 ∷ 0x42 ∷ []) ∷ [])
    ∷ faulty (0x70 ∷ 0x0a ∷ 0x70 ∷ 0x08 ∷ 0x70 ∷ 0x06 ∷ 0x70 ∷ 0x04 ∷ 0x70 ∷ 0x02 ∷ 0x50 ∷ 0x00 ∷ []) TooDeep 10
    -- 64 and 65 primitive objects
    ∷ places (labels 64) (label_places 64 0)
    ∷ faulty (labels 65) TooMany 128
    ∷ []

abbrev pub Worked : Type 0
Worked = AllByRecursion Holds table
