-- The judgement as the code goes about it: over the places of the primitive objects, with the first constructed object
-- of an own text beside them.
use Rattle.std.specs.Prelude.{ℕ, Bool, false, cond, List, [], ◌∷◌, ◌++◌, length, Some, None, Ok, Err, Option, Result, nat_lt}
use Rattle.tlv.specs.declared.place.Place.{Place}
use Rattle.store.specs.Map.{Map}
use Rattle.judge.specs.declared.fault.ObjectFaultKind.TheVariants.{UnknownTag}
use Rattle.judge.specs.declared.fault.ObjectFault.{ObjectFault}
use Rattle.judge.specs.declared.fault.ObjectFault.TheVariants as fault
use Rattle.judge.specs.declared.kind.TextKind.{TextKind}
use Rattle.judge.specs.Kinds.{own}
use Rattle.judge.specs.Objects.{Object, plain, outermost}
use Rattle.judge.specs.Rules.{breaks, lowest}
use Rattle.judge.specs.Judge.{on_fault}

-- the first constructed object
abbrev pub first_built : List Object → Option Place
first_built [] = None
first_built (o ∷ os) = cond o.built (Some o.place) (first_built os)

-- the one that counts against a text
abbrev pub built_in : TextKind → List ℕ → Option Place
built_in k text = cond (own k) (first_built (outermost (length text) text)) None

-- whether there is one before the place
abbrev pub stands_before : Option Place → ℕ → Bool
stands_before None at = false
stands_before (Some p) at = nat_lt p.at at

-- it is an unknown object
abbrev pub unknown_at : Option Place → Result (Unit {0}) ObjectFault
unknown_at None = Ok tt
unknown_at (Some p) = Err (fault.Object UnknownTag p.at p.tag)

-- the first fault, from the object after those passed on
abbrev pub walked : TextKind → Map → List ℕ → Option Place → List Place → List Place → Result (Unit {0}) ObjectFault
walked k m text c passed [] = unknown_at c
walked k m text c passed (p ∷ ps) =
    let rest = walked k m text c (passed ++ p ∷ []) ps in
    cond (stands_before c p.at) (unknown_at c) (on_fault (lowest (breaks k m text passed (plain p))) p rest)
