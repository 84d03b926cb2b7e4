-- The walk over the places judges the text.
use Rattle.std.proofs.Common.{◌≡◌, ℕ, ◌+◌, ◌<◌, Bool, true, false, cond, ltb, List, [], ◌∷◌, ◌++◌, length, Some, None, Ok, Err, Result, sym, refl, ap, ◌∙◌, subst, zero-add, arith}
use Rattle.std.proofs.lemmas.Bool.{true≢false, lt-ltb, le-ltb, cond-true, cond-false}
use Rattle.tlv.specs.declared.place.Place.{Place}
use Rattle.tlv.specs.Series.{found, meaning}
use Rattle.tlv.specs.Grammar.{places_of}
use Rattle.tlv.proofs.Exactness.{exact}
use Rattle.store.specs.Map.{Map}
use Rattle.judge.specs.declared.fault.ObjectFaultKind.TheVariants.{UnknownTag}
use Rattle.judge.specs.declared.fault.ObjectFault.{ObjectFault}
use Rattle.judge.specs.declared.kind.TextKind.{TextKind}
use Rattle.judge.specs.declared.kind.TextKind.TheVariants.{Configuration, TerminalWrite, CardAnswer}
use Rattle.judge.specs.Kinds.{own}
use Rattle.judge.specs.Objects.{Object, plain, nested, plains, places, outermost, objects_of}
use Rattle.judge.specs.Rules.{breaks, lowest}
use Rattle.judge.specs.Judge.{on_fault, first_fault, judged_by, judged}
use Rattle.judge.specs.Walk.{first_built, built_in, stands_before, unknown_at, walked}
use Rattle.judge.proofs.Climbing.{Climbs, series_climbs, outermost_climbs, Agrees, done, same, cut, series_agrees}

-- a refusal is no acceptance
pub err_ok : (f : ObjectFault) → ◌≡◌ {A = Result (Unit {0}) ObjectFault} (Err f) (Ok tt) → ⊥
err_ok f h = let z : ◌≡◌ {A = ℕ} 0 1 = cc in omega arith

-- no constructed object stands before the objects that rise from lo on
none_before : (lo hi at : ℕ) (os : List Object) → Climbs lo hi (places os) → at < lo → stands_before (first_built os) at ≡ false
none_before lo hi at [] c l = refl
none_before lo hi at (o ∷ os) c l = by o.built refl (none_before (o.place.at + 1) hi at os c.1 (omega (arith, c.0)))
  where
    by : (b : Bool) → o.built ≡ b → stands_before (first_built os) at ≡ false → stands_before (cond b (Some o.place) (first_built os)) at ≡ false
    by true e h = le-ltb o.place.at at (omega (arith, c.0))
    by false e h = h

module _ (k : TextKind) (m : Map) (text : List ℕ) where
  -- an own text's constructed object is an unknown one
  pub unknown_nested : (k : TextKind) → own k ≡ true → (passed : List Place) (p : Place) → lowest (breaks k m text passed (nested p)) ≡ Some UnknownTag
  unknown_nested Configuration h passed p = refl
  unknown_nested (TerminalWrite b) h passed p = refl
  unknown_nested CardAnswer h passed p = absurd (true≢false (sym h))

  -- what stands behind the constructed object is not looked at
  stops : (p : Place) (passed ps : List Place) (hi : ℕ) → Climbs (p.at + 1) hi ps → walked k m text (Some p) passed ps ≡ unknown_at (Some p)
  stops p passed [] hi c = refl
  stops p passed (q ∷ qs) hi c = cond-true (ltb p.at q.at) (unknown_at (Some p)) _ (lt-ltb p.at q.at (omega (arith, c.0)))

  walks_own : own k ≡ true → {ps : List Place} {os : List Object} → Agrees ps os → (lo hi : ℕ) → Climbs lo hi (places os) → (passed : List Place) → walked k m text (first_built os) passed ps ≡ first_fault k m text passed os
  walks_own h done lo hi c passed = refl
  walks_own h (same p ps os a) lo hi c passed =
      cond-false (stands_before (first_built os) p.at) (unknown_at (first_built os)) _ (none_before (p.at + 1) hi p.at os c.1 (omega arith))
      ∙ ap (on_fault (lowest (breaks k m text passed (plain p))) p) (walks_own h a (p.at + 1) hi c.1 (passed ++ p ∷ []))
  walks_own h (cut p ps os hi' d) lo hi c passed =
      stops p passed ps hi' d
      ∙ ap (λ o. on_fault o p (first_fault k m text (passed ++ p ∷ []) os)) (sym (unknown_nested k h passed p))

  walks_card : (ps passed : List Place) → walked k m text None passed ps ≡ first_fault k m text passed (plains ps)
  walks_card [] passed = refl
  walks_card (p ∷ ps) passed = ap (on_fault (lowest (breaks k m text passed (plain p))) p) (walks_card ps (passed ++ p ∷ []))

-- the outermost objects of a text that is read, and its primitive ones
pub record Read (text : List ℕ) (ps : List Place) : Type 0 where
  pub agrees : Agrees ps (outermost (length text) text)
  pub outer : Climbs 0 (length text) (places (outermost (length text) text))
  pub inner : Climbs 0 (length text) ps

pub reading : (text : List ℕ) (ps : List Place) → meaning text ≡ found ps → Read text ps
reading text ps h =
    let got = (exact text).sound ps h in
    let s = got.1.series in
    let e : 0 + length text ≡ length text = zero-add (length text) in
    let P : ℕ → List Place → Type 0 = λ n qs. Agrees qs (outermost n text) in
    let Q : ℕ → Type 0 = λ n. Climbs 0 n (places (outermost n text)) in
    let R : ℕ → List Place → Type 0 = λ n qs. Climbs 0 n qs in
    record {
      agrees = subst (P (length text)) (sym got.2) (subst (λ n. P n (places_of got.0)) e (series_agrees s));
      outer = subst Q e (outermost_climbs s);
      inner = subst (R (length text)) (sym got.2) (subst (λ n. R n (places_of got.0)) e (series_climbs s));
    }

walks : (k : TextKind) (m : Map) (text : List ℕ) (ps : List Place) → Read text ps → walked k m text (built_in k text) [] ps ≡ first_fault k m text [] (objects_of k text ps)
walks Configuration m text ps r = walks_own Configuration m text refl r.agrees 0 (length text) r.outer []
walks (TerminalWrite b) m text ps r = walks_own (TerminalWrite b) m text refl r.agrees 0 (length text) r.outer []
walks CardAnswer m text ps r = walks_card CardAnswer m text ps []

-- walking over the places of a text that is read judges it
pub walk_judges : (k : TextKind) (m : Map) (text : List ℕ) (ps : List Place) → meaning text ≡ found ps → walked k m text (built_in k text) [] ps ≡ judged k m text
unfolding judged
walk_judges k m text ps h = walks k m text ps (reading text ps h) ∙ ap (judged_by k m text) (sym h)
