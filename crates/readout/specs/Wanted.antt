-- The wanted objects: the tags of a list, each once, and what is written for them.
use Rattle.std.specs.Prelude.{◌≡◌, ℕ, zero, suc, ◌+◌, ◌-◌, Bool, false, cond, ◌||◌, List, [], ◌∷◌, ◌++◌, length, Some, None, Ok, Err, Option, Result, ◌==◌, nat_lt}
use Rattle.std.specs.List.{AllByRecursion}
use Rattle.store.specs.Map.{Map}
use Rattle.tlv.specs.declared.fault.FaultKind.{FaultKind}
use Rattle.tlv.specs.declared.fault.FaultKind.TheVariants.{TooMany}
use Rattle.tlv.specs.declared.fault.TextFault.{TextFault}
use Rattle.tlv.specs.Objects.{TagRead, tag, broken, tag_at}
use Rattle.readout.specs.declared.refusal.ReadoutRefusal.{ReadoutRefusal}
use Rattle.readout.specs.declared.refusal.ReadoutRefusal.TheVariants.{Short, Fault}
use Rattle.readout.specs.Shown.{Object, object_of, bytes_of}
use Rattle.readout.specs.Output.{fit_answer}

-- what a list of tags has: its end, or a fault and its place, or a tag, its place, and what comes after it
pub data Listed : Type 0 where
  done : Listed
  cut : FaultKind → ℕ → Listed
  lists : ℕ → ℕ → Listed → Listed

-- a tag that stands at a place, and then the rest of the list
abbrev pub on_tag : ℕ → (List ℕ → Listed) → TagRead → Listed
on_tag at again (broken k) = cut k at
on_tag at again (tag t rest) = lists t at (again rest)

-- bytes '00' before a tag are skipped; e is the place just past the list
unfoldable pub listed_by : ℕ → ℕ → List ℕ → Listed
listed_by zero e bs = done
listed_by (suc k) e [] = done
listed_by (suc k) e (b ∷ bs) = cond (b == 0) (listed_by k e bs) (on_tag (e - length (b ∷ bs)) (λ rest. listed_by k e rest) (tag_at (b ∷ bs)))

-- the tags of some bytes at the end of a list; each has a byte at least, so that many turns are enough
unfoldable pub listed_in : ℕ → List ℕ → Listed
listed_in e bs = listed_by (suc (length bs)) e bs

-- whether a tag is among some
abbrev pub among : ℕ → List ℕ → Bool
among t [] = false
among t (u ∷ us) = u == t || among t us

-- the tags that are not among those seen before, each where it first stands
abbrev pub different : List ℕ → Listed → Listed
different seen done = done
different seen (cut k at) = cut k at
different seen (lists t at rest) =
    let repeated = different seen rest in
    let new = different (seen ++ t ∷ []) rest in
    cond (among t seen) repeated (lists t at new)

-- a tag, and then the tags after it
abbrev pub before : ℕ → Result (List ℕ) TextFault → Result (List ℕ) TextFault
before t (Ok ts) = Ok (t ∷ ts)
before t (Err f) = Err f

-- the tags, if there are at most n and no fault; one more is a fault at its place
abbrev pub at_most : ℕ → Listed → Result (List ℕ) TextFault
at_most n done = Ok []
at_most n (cut k at) = Err (record { kind = k; at = at })
at_most zero (lists t at rest) = Err (record { kind = TooMany; at = at })
at_most (suc n) (lists t at rest) = before t (at_most n rest)

-- The different tags of a list, in their order, at most 64.
unfoldable pub wanted_tags : List ℕ → Result (List ℕ) TextFault
wanted_tags v = at_most 64 (different [] (listed_in (length v) v))

-- a value, empty where none is held
abbrev pub value_of : Option (List ℕ) → List ℕ
value_of None = []
value_of (Some v) = v

-- the tags of a map's list, or its fault
abbrev pub wanted_by : Map → Result (List ℕ) TextFault
wanted_by m = wanted_tags (value_of (m 0xDF_8112))

-- no tags where there is a fault
abbrev pub tags_in : Result (List ℕ) TextFault → List ℕ
tags_in (Ok ts) = ts
tags_in (Err f) = []

-- the tags that a map's list has
abbrev pub wanted_at : Map → List ℕ
wanted_at m = tags_in (wanted_by m)

-- for each tag its held object, or an empty object
abbrev pub each_of : List ℕ → Map → List Object
each_of [] m = []
each_of (t ∷ ts) m = object_of t (value_of (m t)) ∷ each_of ts m

-- what is written for a map's list
abbrev pub wanted_objects : Map → List Object
wanted_objects m = each_of (wanted_at m) m

-- a fault of the list comes before the buffer
abbrev pub on_tags : Result (List ℕ) TextFault → List Object → ℕ → Result ℕ ReadoutRefusal
on_tags (Ok ts) xs n = fit_answer (bytes_of xs) n
on_tags (Err f) xs n = Err (Fault f)

-- a work list of so many tags, the map and a buffer of n bytes
abbrev pub wanted_answer : ℕ → Map → ℕ → Result ℕ ReadoutRefusal
wanted_answer room m n = cond (nat_lt room 64) (Err Short) (on_tags (wanted_by m) (wanted_objects m) n)

-- Two maps that hold the same under DF8112 and under the tags of its list have the same wanted objects.
abbrev pub OnlyWanted : Map → Type 0
OnlyWanted m = (n : Map) → m 0xDF_8112 ≡ n 0xDF_8112 → AllByRecursion (λ t. m t ≡ n t) (wanted_at m) → wanted_objects m ≡ wanted_objects n

-- whether a tag stands in a list
abbrev pub stands : ℕ → Listed → Bool
stands t done = false
stands t (cut k at) = false
stands t (lists u at rest) = u == t || stands t rest

-- how often a tag is among some
abbrev pub times : ℕ → List ℕ → ℕ
times t [] = 0
times t (u ∷ us) = cond (u == t) 1 0 + times t us

-- Each tag that stands in the list is wanted exactly once, and no other.
abbrev pub EachOnce : List ℕ → Type 0
EachOnce v = (ts : List ℕ) → wanted_tags v ≡ Ok ts → (t : ℕ) → times t ts ≡ cond (stands t (listed_in (length v) v)) 1 0
