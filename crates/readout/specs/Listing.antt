-- A list of tags read step by step into a keyed list.
use Rattle.std.specs.Prelude.{◌≡◌, ℕ, ◌-◌, ◌<◌, true, cond, List, [], ◌∷◌, ◌++◌, length, take, Some, None, Ok, Err, Option, Result, ◌==◌}
use Rattle.std.specs.Borrow.{Bor}
use Rattle.keyed.specs.declared.tag.Tag.{Tag}
use Rattle.tlv.specs.declared.fault.FaultKind.{FaultKind}
use Rattle.tlv.specs.declared.fault.TextFault.{TextFault}
use Rattle.tlv.specs.Objects.{TagRead, tag, broken, tag_at}
use Rattle.tlv.specs.Written.{is_tag}
use Rattle.readout.specs.declared.tags.Step.{Step}
use Rattle.readout.specs.declared.tags.Step.TheVariants.{Filler, Want}
use Rattle.readout.specs.Wanted.{listed_in, different, at_most}

-- what stands next in a list: its end, filler, a fault and its place, or a tag, its place and the bytes after it
pub data Next : Type 0 where
  end : Next
  filler : List ℕ → Next
  fault : FaultKind → ℕ → Next
  want : ℕ → ℕ → List ℕ → Next

-- a tag that was read at a place
abbrev pub tagged : ℕ → TagRead → Next
tagged at (broken k) = fault k at
tagged at (tag t rest) = want t at rest

-- what stands next in a list that ends just before the place e
abbrev pub next_of : ℕ → List ℕ → Next
next_of e [] = end
next_of e (b ∷ bs) = cond (b == 0) (filler bs) (tagged (e - length (b ∷ bs)) (tag_at (b ∷ bs)))

-- the code's steps in these words
abbrev pub step_told : Result (Option Step) TextFault → Next
step_told (Ok None) = end
step_told (Ok (Some (Filler rest))) = filler rest.now
step_told (Ok (Some (Want t at rest))) = want t at rest.now
step_told (Err f) = fault f.kind f.at

-- the number of a tag, of 24 bits
pub record Whole (t : ℕ) : Type 0 where
  pub is : is_tag t ≡ true
  pub small : t < 16777216

-- what is wanted is a tag
abbrev pub WholeTag : Result (Option Step) TextFault → Type 0
WholeTag (Ok None) = Unit {0}
WholeTag (Ok (Some (Filler rest))) = Unit {0}
WholeTag (Ok (Some (Want t at rest))) = Whole t
WholeTag (Err f) = Unit {0}

-- the numbers of tags
abbrev pub numbers : List Tag → List ℕ
numbers [] = []
numbers (t ∷ ts) = t.value ∷ numbers ts

-- the tags taken, and then those to come
abbrev pub after : List ℕ → Result (List ℕ) TextFault → Result (List ℕ) TextFault
after held (Ok ts) = Ok (held ++ ts)
after held (Err f) = Err f

-- the tags taken so far, and those that are still to come
unfoldable pub goes_on : ℕ → List ℕ → List ℕ → Result (List ℕ) TextFault
goes_on e held bs = after held (at_most (64 - length held) (different held (listed_in e bs)))

-- one step: the end, a fault, or fewer bytes left
abbrev pub Stepped : Result (Option (Bor (List ℕ))) TextFault → ℕ → List ℕ → List ℕ → List ℕ → Type 0
Stepped (Ok None) e held bs held' = Ok held' ≡ goes_on e held bs
Stepped (Ok (Some rest)) e held bs held' = (goes_on e held' rest.now ≡ goes_on e held bs) × (length rest.now < length bs)
Stepped (Err f) e held bs held' = Err f ≡ goes_on e held bs

-- the tags, if there was no fault
abbrev pub told : Result (Unit {0}) TextFault → List ℕ → Result (List ℕ) TextFault
told (Ok x) ts = Ok ts
told (Err f) ts = Err f

-- so many numbers at the front of an array
abbrev pub told_in : Result ℕ TextFault → List ℕ → Result (List ℕ) TextFault
told_in (Ok n) array = Ok (take n array)
told_in (Err f) array = Err f
