-- The judgement of a text that is read.
use Rattle.std.proofs.Common.{ℕ, List, [], ◌∷◌, ◌++◌, Some, None, Option, Result, sym, subst}
use Rattle.tlv.specs.declared.place.Place.{Place}
use Rattle.tlv.specs.Series.{Reading}
use Rattle.store.specs.Map.{empty}
use Rattle.judge.specs.declared.fault.ObjectFault.{ObjectFault}
use Rattle.judge.specs.declared.fault.ObjectFaultKind.{ObjectFaultKind}
use Rattle.judge.specs.declared.kind.TextKind.{TextKind}
use Rattle.judge.specs.Judge.{on_fault, first_fault, judged_by, judged, refused_for}
use Rattle.judge.specs.Objects.{Object, objects_of}
use Rattle.judge.specs.Rules.{breaks, lowest}
use Rattle.cardtext.specs.Report.{Told, EachTold}

-- a fault that is found is an object's
on_fault_lem : (o : Option ObjectFaultKind) (p : Place) (next : Result (Unit {0}) ObjectFault) → Told (refused_for next) → Told (refused_for (on_fault o p next))
on_fault_lem None p next h = h
on_fault_lem (Some r) p next h = tt

first_fault_lem : (k : TextKind) (text : List ℕ) (passed : List Place) (os : List Object) → Told (refused_for (first_fault k empty text passed os))
first_fault_lem k text passed [] = tt
first_fault_lem k text passed (o ∷ os) =
    on_fault_lem (lowest (breaks k empty text passed o)) o.place (first_fault k empty text (passed ++ o.place ∷ []) os)
    (first_fault_lem k text (passed ++ o.place ∷ []) os)

pub each_told : (text : List ℕ) → EachTold text
unfolding judged
each_told text = record {
  told = λ k ps m.
      subst (λ (r : Reading). Told (refused_for (judged_by k empty text r))) (sym m) (first_fault_lem k text [] (objects_of k text ps));
}
