-- Texts with what they are judged to be, nothing being held but where that is said.
use Rattle.std.specs.Prelude.{◌≡◌, ℕ, true, false, List, [], ◌∷◌, Some, Ok, Err}
use Rattle.std.specs.List.{AllByRecursion}
use Rattle.store.specs.Map.{Map, empty, changed}
use Rattle.judge.specs.declared.fault.ObjectFaultKind.{ObjectFaultKind}
use Rattle.judge.specs.declared.fault.ObjectFaultKind.TheVariants.{UnknownTag, OtherWriter, BadLength, BadDigits, TagTwice, HeldWithValue, AfterBegin}
use Rattle.judge.specs.declared.fault.ObjectFault.TheVariants.{Object}
use Rattle.judge.specs.declared.kind.TextKind.{TextKind}
use Rattle.judge.specs.declared.kind.TextKind.TheVariants.{Configuration, TerminalWrite, CardAnswer}
use Rattle.judge.specs.Judge.{judged}

-- A text of a kind, with what is held: it is accepted, or refused for an object, with the rule, the place and the tag.
pub data Row : Type 0 where
  taken : TextKind → Map → List ℕ → Row
  refused : TextKind → Map → List ℕ → ObjectFaultKind → ℕ → ℕ → Row

-- the text of a row is judged as the row says
abbrev pub Holds : Row → Type 0
Holds (taken k m text) = judged k m text ≡ Ok tt
Holds (refused k m text rule at tag) = judged k m text ≡ Err (Object rule at tag)

-- one tag is held
abbrev pub holding : ℕ → List ℕ → Map
holding t v = changed empty t (Some v)

abbrev pub table : List Row
table =
    -- an empty label is taken, and held empty it may be written once more
    taken CardAnswer empty (0x50 ∷ 0x00 ∷ [])
    ∷ taken CardAnswer (holding 0x50 []) (0x50 ∷ 0x01 ∷ 0x41 ∷ [])
    -- held with a value it may not
    ∷ refused CardAnswer (holding 0x50 (0x41 ∷ [])) (0x50 ∷ 0x01 ∷ 0x42 ∷ []) HeldWithValue 0 0x50
    -- a record with our floor limit in it
    ∷ refused CardAnswer empty (0x70 ∷ 0x10 ∷ 0x5F ∷ 0x24 ∷ 0x03 ∷ 0x25 ∷ 0x12 ∷ 0x31 ∷ 0xDF ∷ 0x81 ∷ 0x23 ∷ 0x06 ∷ 0x00 ∷ 0x00 ∷ 0x00 ∷ 0x00 ∷ 0x10 ∷ 0x00 ∷ []) OtherWriter 8 0xdf8123
    ∷ taken Configuration empty (0xDF ∷ 0x81 ∷ 0x23 ∷ 0x06 ∷ 0x00 ∷ 0x00 ∷ 0x00 ∷ 0x00 ∷ 0x10 ∷ 0x00 ∷ [])
    -- the reader writes its own objects itself
    ∷ refused (TerminalWrite false) empty (0x95 ∷ 0x05 ∷ 0x00 ∷ 0x00 ∷ 0x00 ∷ 0x00 ∷ 0x00 ∷ []) OtherWriter 0 0x95
    -- unknown tags
    ∷ refused (TerminalWrite false) empty (0x9F ∷ 0x01 ∷ 0x01 ∷ 0x00 ∷ []) UnknownTag 0 0x9f01
    ∷ taken CardAnswer empty (0x9F ∷ 0x01 ∷ 0x01 ∷ 0x00 ∷ [])
    -- a constructed object in an own text, an empty one too, and what is inside is not looked at
    ∷ refused Configuration empty (0x9F ∷ 0x35 ∷ 0x01 ∷ 0x22 ∷ 0x70 ∷ 0x00 ∷ []) UnknownTag 4 0x70
    ∷ refused (TerminalWrite false) empty (0x70 ∷ 0x04 ∷ 0x9F ∷ 0x35 ∷ 0x01 ∷ 0x22 ∷ []) UnknownTag 0 0x70
    -- lengths: one byte too many, and one too few
    ∷ refused CardAnswer empty (0x50 ∷ 0x11 ∷ 0x41 ∷ 0x41 ∷ 0x41 ∷ 0x41 ∷ 0x41 ∷ 0x41 ∷ 0x41 ∷ 0x41 ∷ 0x41 ∷ 0x41 ∷ 0x41 ∷ 0x41 ∷ 0x41 ∷ 0x41 ∷ 0x41 ∷ 0x41 ∷ 0x41 ∷ []) BadLength 0 0x50
    ∷ taken CardAnswer empty (0x50 ∷ 0x10 ∷ 0x41 ∷ 0x41 ∷ 0x41 ∷ 0x41 ∷ 0x41 ∷ 0x41 ∷ 0x41 ∷ 0x41 ∷ 0x41 ∷ 0x41 ∷ 0x41 ∷ 0x41 ∷ 0x41 ∷ 0x41 ∷ 0x41 ∷ 0x41 ∷ [])
    ∷ refused CardAnswer empty (0x84 ∷ 0x04 ∷ 0xA0 ∷ 0x00 ∷ 0x00 ∷ 0x00 ∷ []) BadLength 0 0x84
    -- digits
    ∷ refused Configuration empty (0x9F ∷ 0x35 ∷ 0x01 ∷ 0x2A ∷ []) BadDigits 0 0x9f35
    ∷ taken Configuration empty (0x9F ∷ 0x35 ∷ 0x01 ∷ 0x29 ∷ [])
    ∷ taken CardAnswer empty (0x5A ∷ 0x03 ∷ 0x12 ∷ 0x34 ∷ 0x5F ∷ [])
    ∷ refused CardAnswer empty (0x5A ∷ 0x02 ∷ 0x1F ∷ 0x2F ∷ []) BadDigits 0 0x5a
    -- the lowest number at one object: a byte too few, and no digits
    ∷ refused (TerminalWrite false) empty (0x9A ∷ 0x02 ∷ 0xAA ∷ 0xAA ∷ []) BadLength 0 0x9a
    -- a tag twice, the second empty
    ∷ refused CardAnswer empty (0x50 ∷ 0x01 ∷ 0x41 ∷ 0x50 ∷ 0x00 ∷ []) TagTwice 3 0x50
    -- the amount after begin, and the merchant name
    ∷ refused (TerminalWrite true) empty (0x9F ∷ 0x02 ∷ 0x06 ∷ 0x00 ∷ 0x00 ∷ 0x00 ∷ 0x00 ∷ 0x12 ∷ 0x50 ∷ []) AfterBegin 0 0x9f02
    ∷ taken (TerminalWrite false) empty (0x9F ∷ 0x02 ∷ 0x06 ∷ 0x00 ∷ 0x00 ∷ 0x00 ∷ 0x00 ∷ 0x12 ∷ 0x50 ∷ [])
    ∷ taken (TerminalWrite true) empty (0x9F ∷ 0x4E ∷ 0x01 ∷ 0x41 ∷ [])
    ∷ []

abbrev pub Worked : Type 0
Worked = AllByRecursion Holds table
