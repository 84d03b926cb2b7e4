-- What a judgement says, by the rules alone.
use Rattle.std.specs.Prelude.{◌≡◌, ℕ, ◌<◌, Bool, true, false, List, length, take, Ok, Err, Result, slice_index_or}
use Rattle.tlv.specs.declared.place.Place.{Place}
use Rattle.tlv.specs.Series.{Reading, wrong, found, place, meaning}
use Rattle.store.specs.Map.{Map}
use Rattle.judge.specs.declared.fault.ObjectFaultKind.{ObjectFaultKind}
use Rattle.judge.specs.declared.fault.ObjectFault.{ObjectFault}
use Rattle.judge.specs.declared.fault.ObjectFault.TheVariants as fault
use Rattle.judge.specs.declared.kind.TextKind.{TextKind}
use Rattle.judge.specs.Faults.{fault_number}
use Rattle.judge.specs.Kinds.{own}
use Rattle.judge.specs.Objects.{Object, plain, plains, places, objects_of}
use Rattle.judge.specs.Rules.{breaks}
use Rattle.judge.specs.Judge.{judged}

-- the object at the index i, and a blank one behind the last
abbrev pub object_at : List Object → ℕ → Object
object_at os i = slice_index_or os i (plain (place 0 0 0 0))

-- whether it breaks the rule
abbrev pub breaks_at : TextKind → Map → List ℕ → List Object → ℕ → ObjectFaultKind → Bool
breaks_at k m text os i rule = breaks k m text (places (take i os)) (object_at os i) rule

-- No object breaks a rule.
abbrev pub AllKeep : TextKind → Map → List ℕ → List Object → Type 0
AllKeep k m text os = (i : ℕ) (rule : ObjectFaultKind) → i < length os → breaks_at k m text os i rule ≡ false

-- An object breaks a rule: it has this place and this tag, it breaks no rule of a lower number, and no object at a
-- lower place breaks any.
pub record FirstBreaks (k : TextKind) (m : Map) (text : List ℕ) (os : List Object) (rule : ObjectFaultKind) (at tag : ℕ) : Type 0 where
  pub index : ℕ
  pub within : index < length os
  pub placed : (object_at os index).place.at ≡ at
  pub tagged : (object_at os index).place.tag ≡ tag
  pub broken : breaks_at k m text os index rule ≡ true
  pub lowest : (other : ObjectFaultKind) → fault_number other < fault_number rule → breaks_at k m text os index other ≡ false
  pub first :
      (i : ℕ) (other : ObjectFaultKind) → i < length os → (object_at os i).place.at < at → breaks_at k m text os i other ≡ false

-- Objects are accepted where all keep the rules, and refused for the first that breaks one.
abbrev pub ObjectsVerdict : TextKind → Map → List ℕ → List Object → Result (Unit {0}) ObjectFault → Type 0
ObjectsVerdict k m text os (Ok x) = AllKeep k m text os
ObjectsVerdict k m text os (Err (fault.Text f)) = ⊥
ObjectsVerdict k m text os (Err (fault.Object rule at tag)) = FirstBreaks k m text os rule at tag

-- A text fault comes first, and is carried whole.
abbrev pub TextVerdict : TextKind → Map → List ℕ → Reading → Result (Unit {0}) ObjectFault → Type 0
TextVerdict k m text (wrong kind at) r = r ≡ Err (fault.Text (record { kind = kind; at = at }))
TextVerdict k m text (found ps) r = ObjectsVerdict k m text (objects_of k text ps) r

-- Every text is judged by the rules: the judgement is the one verdict, a text whose objects all keep the rules is
-- accepted, and an own text that is accepted has primitive objects only.
pub record JudgedByRules (k : TextKind) (m : Map) (text : List ℕ) : Type 0 where
  pub verdict : TextVerdict k m text (meaning text) (judged k m text)
  pub accepts : (ps : List Place) → meaning text ≡ found ps → AllKeep k m text (objects_of k text ps) → judged k m text ≡ Ok tt
  pub primitive : (ps : List Place) → own k ≡ true → meaning text ≡ found ps → judged k m text ≡ Ok tt → objects_of k text ps ≡ plains ps
