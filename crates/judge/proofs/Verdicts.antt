-- The judgement by the rules alone.
use Rattle.std.proofs.Common.{◌≡◌, ℕ, zero, suc, ◌+◌, ◌<◌, ◌≤◌, Bool, true, false, List, [], ◌∷◌, ◌++◌, length, take, Some, None, Ok, Err, Option, Result, sym, refl, ap, ◌∙◌, subst, append_assoc, append-nil, le_of_suc-le-suc, not-suc-le-zero, arith}
use Rattle.std.proofs.lemmas.Bool.{both_ways, true≢false}
use Rattle.tlv.specs.declared.place.Place.{Place}
use Rattle.tlv.specs.Series.{Reading, wrong, found, meaning}
use Rattle.store.specs.Map.{Map}
use Rattle.judge.specs.declared.fault.ObjectFaultKind.{ObjectFaultKind}
use Rattle.judge.specs.declared.fault.ObjectFault.{ObjectFault}
use Rattle.judge.specs.declared.fault.ObjectFault.TheVariants as fault
use Rattle.judge.specs.declared.kind.TextKind.{TextKind}
use Rattle.judge.specs.declared.kind.TextKind.TheVariants.{Configuration, TerminalWrite, CardAnswer}
use Rattle.judge.specs.Faults.{fault_number}
use Rattle.judge.specs.Kinds.{own}
use Rattle.judge.specs.Objects.{Object, plain, plains, places, objects_of}
use Rattle.judge.specs.Rules.{breaks, lowest}
use Rattle.judge.specs.Judge.{on_fault, first_fault, judged_by, judged}
use Rattle.judge.specs.Verdict.{object_at, AllKeep, ObjectsVerdict, TextVerdict, JudgedByRules}
use Rattle.judge.proofs.Climbing.{Climbs, Agrees, done, same, cut}
use Rattle.judge.proofs.Lowest.{Lowest, lowest_is}
use Rattle.judge.proofs.Judging.{err_ok, unknown_nested, Read, reading}

-- objects that rise from lo on stand at lo or behind it
above : (lo hi : ℕ) (os : List Object) → Climbs lo hi (places os) → (i : ℕ) → i < length os → lo ≤ (object_at os i).place.at
above lo hi [] c i l = absurd (not-suc-le-zero l)
above lo hi (o ∷ os) c zero l = c.0
above lo hi (o ∷ os) c (suc i) l = omega (arith, c.0, above (o.place.at + 1) hi os c.1 i (le_of_suc-le-suc l))

module _ (k : TextKind) (m : Map) (text : List ℕ) where
  -- whether the object at i of os breaks a rule, those at `passed` standing before os
  abbrev breaks_from : List Place → List Object → ℕ → ObjectFaultKind → Bool
  breaks_from passed os i rule = breaks k m text (passed ++ places (take i os)) (object_at os i) rule

  here : (passed : List Place) (o : Object) (os : List Object) (rule : ObjectFaultKind) → breaks k m text passed o rule ≡ breaks_from passed (o ∷ os) 0 rule
  here passed o os rule = ap (λ qs. breaks k m text qs o rule) (sym (append-nil passed))

  there : (passed : List Place) (o : Object) (os : List Object) (i : ℕ) (rule : ObjectFaultKind) → breaks_from (passed ++ o.place ∷ []) os i rule ≡ breaks_from passed (o ∷ os) (suc i) rule
  there passed o os i rule = ap (λ qs. breaks k m text qs (object_at os i) rule) (append_assoc passed (o.place ∷ []) (places (take i os)))

  -- the first object that breaks a rule, those at `passed` standing before
  record FirstFrom (passed : List Place) (os : List Object) (rule : ObjectFaultKind) (at tag : ℕ) : Type 0 where
    pub index : ℕ
    pub within : index < length os
    pub placed : (object_at os index).place.at ≡ at
    pub tagged : (object_at os index).place.tag ≡ tag
    pub broken : breaks_from passed os index rule ≡ true
    pub lowest : (other : ObjectFaultKind) → fault_number other < fault_number rule → breaks_from passed os index other ≡ false
    pub first : (i : ℕ) (other : ObjectFaultKind) → i < length os → (object_at os i).place.at < at → breaks_from passed os i other ≡ false

  abbrev VerdictFrom : List Place → List Object → Result (Unit {0}) ObjectFault → Type 0
  VerdictFrom passed os (Ok x) = (i : ℕ) (rule : ObjectFaultKind) → i < length os → breaks_from passed os i rule ≡ false
  VerdictFrom passed os (Err (fault.Text f)) = ⊥
  VerdictFrom passed os (Err (fault.Object rule at tag)) = FirstFrom passed os rule at tag

  later : (passed : List Place) (o : Object) (os : List Object) (r : Result (Unit {0}) ObjectFault) → ((rule : ObjectFaultKind) → breaks k m text passed o rule ≡ false) → VerdictFrom (passed ++ o.place ∷ []) os r → VerdictFrom passed (o ∷ os) r
  later passed o os (Ok x) clean v = go
    where
      go : (i : ℕ) (rule : ObjectFaultKind) → i < length (o ∷ os) → breaks_from passed (o ∷ os) i rule ≡ false
      go zero rule l = sym (here passed o os rule) ∙ clean rule
      go (suc i) rule l = sym (there passed o os i rule) ∙ v i rule (le_of_suc-le-suc l)
  later passed o os (Err (fault.Text f)) clean v = v
  later passed o os (Err (fault.Object rule at tag)) clean v =
      record {
        index = suc v.index;
        within = omega (arith, v.within);
        placed = v.placed;
        tagged = v.tagged;
        broken = sym (there passed o os v.index rule) ∙ v.broken;
        lowest = λ other l. sym (there passed o os v.index other) ∙ v.lowest other l;
        first = go;
      }
    where
      go : (i : ℕ) (other : ObjectFaultKind) → i < length (o ∷ os) → (object_at (o ∷ os) i).place.at < at → breaks_from passed (o ∷ os) i other ≡ false
      go zero other l b = sym (here passed o os other) ∙ clean other
      go (suc i) other l b = sym (there passed o os i other) ∙ v.first i other (le_of_suc-le-suc l) b

  stops_here : (lo hi : ℕ) (passed : List Place) (o : Object) (os : List Object) → Climbs lo hi (places (o ∷ os)) → (r : ObjectFaultKind) → Lowest (breaks k m text passed o) (Some r) → FirstFrom passed (o ∷ os) r o.place.at o.place.tag
  stops_here lo hi passed o os c r v =
      record {
        index = 0;
        within = omega arith;
        placed = refl;
        tagged = refl;
        broken = sym (here passed o os r) ∙ v.0;
        lowest = λ other l. sym (here passed o os other) ∙ v.1 other l;
        first = go;
      }
    where
      go : (i : ℕ) (other : ObjectFaultKind) → i < length (o ∷ os) → (object_at (o ∷ os) i).place.at < o.place.at → breaks_from passed (o ∷ os) i other ≡ false
      go zero other l b = absurd (omega arith)
      go (suc i) other l b = absurd (omega (arith, above (o.place.at + 1) hi os c.1 i (le_of_suc-le-suc l)))

  verdict_from : (lo hi : ℕ) (passed : List Place) (os : List Object) → Climbs lo hi (places os) → VerdictFrom passed os (first_fault k m text passed os)
  verdict_from lo hi passed [] c = λ i rule l. absurd (not-suc-le-zero l)
  verdict_from lo hi passed (o ∷ os) c = by (lowest (breaks k m text passed o)) (lowest_is (breaks k m text passed o)) (verdict_from (o.place.at + 1) hi (passed ++ o.place ∷ []) os c.1)
    where
      by : (w : Option ObjectFaultKind) → Lowest (breaks k m text passed o) w → VerdictFrom (passed ++ o.place ∷ []) os (first_fault k m text (passed ++ o.place ∷ []) os) → VerdictFrom passed (o ∷ os) (on_fault w o.place (first_fault k m text (passed ++ o.place ∷ []) os))
      by None v rest = later passed o os (first_fault k m text (passed ++ o.place ∷ []) os) v rest
      by (Some r) v rest = stops_here lo hi passed o os c r v

  from_all : (os : List Object) (r : Result (Unit {0}) ObjectFault) → VerdictFrom [] os r → ObjectsVerdict k m text os r
  from_all os (Ok x) v = v
  from_all os (Err (fault.Text f)) v = v
  from_all os (Err (fault.Object rule at tag)) v =
      record { index = v.index; within = v.within; placed = v.placed; tagged = v.tagged; broken = v.broken; lowest = v.lowest; first = v.first }

  -- all keep the rules, so the verdict is none of a refusal
  accepted_of : (os : List Object) (r : Result (Unit {0}) ObjectFault) → ObjectsVerdict k m text os r → AllKeep k m text os → r ≡ Ok tt
  accepted_of os (Ok tt) v keep = refl
  accepted_of os (Err (fault.Text f)) v keep = absurd v
  accepted_of os (Err (fault.Object rule at tag)) v keep = absurd (both_ways _ (keep v.index rule v.within) v.broken)

places_plains : (ps : List Place) → places (plains ps) ≡ ps
places_plains [] = refl
places_plains (p ∷ ps) = ap (λ qs. p ∷ qs) (places_plains ps)

-- the objects that are judged rise
objects_climb : (k : TextKind) (text : List ℕ) (ps : List Place) → Read text ps → Climbs 0 (length text) (places (objects_of k text ps))
objects_climb Configuration text ps r = r.outer
objects_climb (TerminalWrite b) text ps r = r.outer
objects_climb CardAnswer text ps r = subst (Climbs 0 (length text)) (sym (places_plains ps)) r.inner

-- an own text that is accepted has no constructed object
only_plain : (k : TextKind) (m : Map) (text : List ℕ) → own k ≡ true → {ps : List Place} {os : List Object} → Agrees ps os → (passed : List Place) → first_fault k m text passed os ≡ Ok tt → os ≡ plains ps
only_plain k m text mine done passed h = refl
only_plain k m text mine (same p ps os a) passed h = by (lowest (breaks k m text passed (plain p))) h (only_plain k m text mine a (passed ++ p ∷ []))
  where
    by : (w : Option ObjectFaultKind) → on_fault w p (first_fault k m text (passed ++ p ∷ []) os) ≡ Ok tt → (first_fault k m text (passed ++ p ∷ []) os ≡ Ok tt → os ≡ plains ps) → plain p ∷ os ≡ plains (p ∷ ps)
    by None g next = ap (λ qs. plain p ∷ qs) (next g)
    by (Some r) g next = absurd (err_ok _ g)
only_plain k m text mine (cut p ps os hi c) passed h =
    absurd (err_ok _ (ap (λ w. on_fault w p (first_fault k m text (passed ++ p ∷ []) os)) (sym (unknown_nested k m text k mine passed p)) ∙ h))

own_objects : (k : TextKind) → own k ≡ true → (text : List ℕ) (ps : List Place) → Read text ps → Agrees ps (objects_of k text ps)
own_objects Configuration h text ps r = r.agrees
own_objects (TerminalWrite b) h text ps r = r.agrees
own_objects CardAnswer h text ps r = absurd (true≢false (sym h))

pub judged_by_rules : (k : TextKind) (m : Map) (text : List ℕ) → JudgedByRules k m text
unfolding judged
judged_by_rules k m text =
    record {
      verdict = by (meaning text) refl;
      accepts = λ ps h keep. ap (judged_by k m text) h ∙ accepted_of k m text (objects_of k text ps) (first_fault k m text [] (objects_of k text ps)) (objects ps h) keep;
      primitive = λ ps h read a. only_plain k m text h (own_objects k h text ps (reading text ps read)) [] (ap (judged_by k m text) (sym read) ∙ a);
    }
  where
    objects : (ps : List Place) → meaning text ≡ found ps → ObjectsVerdict k m text (objects_of k text ps) (first_fault k m text [] (objects_of k text ps))
    objects ps h = from_all k m text (objects_of k text ps) (first_fault k m text [] (objects_of k text ps)) (verdict_from k m text 0 (length text) [] (objects_of k text ps) (objects_climb k text ps (reading text ps h)))

    by : (x : Reading) → meaning text ≡ x → TextVerdict k m text x (judged_by k m text x)
    by (wrong kind at) h = refl
    by (found ps) h = objects ps h
