-- The answers of the code, in the words of the definitions.
use Rattle.std.specs.Prelude.{ℕ, ◌+◌, cond, List, length, take, Some, None, Ok, Err, Option, Result, nat_lt}
use Rattle.std.specs.Borrow.{Bor}
use Rattle.tlv.specs.declared.fault.FaultKind.{FaultKind}
use Rattle.tlv.specs.declared.fault.TextFault.{TextFault}
use Rattle.tlv.specs.declared.token.Token.{Token}
use Rattle.tlv.specs.declared.token.Token.TheVariants.{End, Primitive, Constructed}
use Rattle.tlv.specs.declared.place.Place.{Place}
use Rattle.tlv.specs.declared.text.ReadRefusal.{ReadRefusal}
use Rattle.tlv.specs.declared.text.ReadRefusal.TheVariants.{ListShort, Fault}
use Rattle.tlv.specs.Series.{Reading, wrong, found, most_objects, meaning}
use Rattle.tlv.specs.Objects.{TagRead, tag, broken, LengthRead, bad, len, Seen, end, primitive, constructed, Next, fault, seen}

abbrev pub tag_told : Result (ℕ × Bor (List ℕ)) FaultKind → TagRead
tag_told (Ok p) = tag p.0 p.1.now
tag_told (Err k) = broken k

abbrev pub length_told : Option (ℕ × Bor (List ℕ)) → LengthRead
length_told (Some p) = len p.0 p.1.now
length_told None = bad

abbrev pub meant : Token → Seen
meant End = end
meant (Primitive t at start v) = primitive t at start v.now
meant (Constructed t at start v) = constructed t at start v.now

abbrev pub next_told : Result (Token × Bor (List ℕ)) TextFault → Next
next_told (Ok p) = seen (meant p.0) p.1.now
next_told (Err f) = fault f.kind f.at

-- the place just past the series inside an object
abbrev pub inside_end : Seen → ℕ
inside_end end = 0
inside_end (primitive t at start v) = 0
inside_end (constructed t at start v) = start + length v

-- whether a series or an object was read, with the places that the list then has
abbrev pub told : Result (Unit {0}) TextFault → List Place → Reading
told (Ok x) ps = found ps
told (Err f) ps = wrong f.kind f.at

-- a number is that of the objects found, whose places stand at the front of the memory
abbrev pub counted : Result ℕ TextFault → List Place → Reading
counted (Ok n) memory = found (take n memory)
counted (Err f) memory = wrong f.kind f.at

-- what reading a text answers: that the work list is short, or a reading
pub data Answer : Type 0 where
  short : Answer
  reading : Reading → Answer

abbrev pub answered : Result ℕ ReadRefusal → List Place → Answer
answered (Ok n) memory = reading (found (take n memory))
answered (Err ListShort) memory = short
answered (Err (Fault f)) memory = reading (wrong f.kind f.at)

-- the answer to a text, with a work list of so many places
abbrev pub answer_to : ℕ → List ℕ → Answer
answer_to room text = cond (nat_lt room most_objects) short (reading (meaning text))
