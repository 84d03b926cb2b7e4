-- The judgement of a text: accepted, or its first fault.
use Rattle.std.specs.Prelude.{ℕ, cond, List, [], ◌∷◌, ◌++◌, Some, None, Ok, Err, Option, Result, nat_lt}
use Rattle.tlv.specs.declared.place.Place.{Place}
use Rattle.tlv.specs.Series.{Reading, wrong, found, most_objects, meaning}
use Rattle.store.specs.Map.{Map}
use Rattle.judge.specs.declared.fault.ObjectFaultKind.{ObjectFaultKind}
use Rattle.judge.specs.declared.fault.ObjectFault.{ObjectFault}
use Rattle.judge.specs.declared.fault.ObjectFault.TheVariants as fault
use Rattle.judge.specs.declared.fault.JudgeRefusal.{JudgeRefusal}
use Rattle.judge.specs.declared.fault.JudgeRefusal.TheVariants.{ListShort, Fault}
use Rattle.judge.specs.declared.kind.TextKind.{TextKind}
use Rattle.judge.specs.Objects.{Object, objects_of}
use Rattle.judge.specs.Rules.{breaks, lowest}

-- a fault of the object at p, or what comes after it
abbrev pub on_fault : Option ObjectFaultKind → Place → Result (Unit {0}) ObjectFault → Result (Unit {0}) ObjectFault
on_fault None p next = next
on_fault (Some r) p next = Err (fault.Object r p.at p.tag)

-- the first fault of these objects, those at `passed` having none
abbrev pub first_fault : TextKind → Map → List ℕ → List Place → List Object → Result (Unit {0}) ObjectFault
first_fault k m text passed [] = Ok tt
first_fault k m text passed (o ∷ os) =
    let rest = first_fault k m text (passed ++ o.place ∷ []) os in
    on_fault (lowest (breaks k m text passed o)) o.place rest

-- a text fault comes before any object's
abbrev pub judged_by : TextKind → Map → List ℕ → Reading → Result (Unit {0}) ObjectFault
judged_by k m text (wrong kind at) = Err (fault.Text (record { kind = kind; at = at }))
judged_by k m text (found ps) = first_fault k m text [] (objects_of k text ps)

-- the judgement of a text of the kind k, with m held
unfoldable pub judged : TextKind → Map → List ℕ → Result (Unit {0}) ObjectFault
judged k m text = judged_by k m text (meaning text)

abbrev pub refused_for : Result (Unit {0}) ObjectFault → Result (Unit {0}) JudgeRefusal
refused_for (Ok x) = Ok tt
refused_for (Err f) = Err (Fault f)

-- the answer with a work list of so many places
abbrev pub judgement : ℕ → TextKind → Map → List ℕ → Result (Unit {0}) JudgeRefusal
judgement room k m text = cond (nat_lt room most_objects) (Err ListShort) (refused_for (judged k m text))

abbrev pub answered : Result ℕ JudgeRefusal → Result (Unit {0}) JudgeRefusal
answered (Ok n) = Ok tt
answered (Err e) = Err e
