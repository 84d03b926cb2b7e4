-- What holds of an accepted text.
use Rattle.std.proofs.Common.{◌≡◌, ℕ, Bool, true, false, cond, ◌&&◌, List, [], ◌∷◌, ◌++◌, Some, None, Ok, Option, sym, refl, ◌∙◌}
use Rattle.std.proofs.lemmas.Bool.{true≢false, not-false}
use Rattle.dictionary.specs.declared.entry.Entry.{Entry}
use Rattle.dictionary.specs.Dictionary.{entry_of}
use Rattle.tlv.specs.declared.place.Place.{Place}
use Rattle.tlv.specs.Series.{found, meaning}
use Rattle.store.specs.Map.{Map}
use Rattle.judge.specs.declared.fault.ObjectFaultKind.{ObjectFaultKind}
use Rattle.judge.specs.declared.fault.ObjectFaultKind.TheVariants.{UnknownTag, OtherWriter, BadLength, BadDigits, TagTwice, HeldWithValue, AfterBegin}
use Rattle.judge.specs.declared.kind.TextKind.{TextKind}
use Rattle.judge.specs.Kinds.{own}
use Rattle.judge.specs.Objects.{plain}
use Rattle.judge.specs.Rules.{breaks_by, breaks, lowest}
use Rattle.judge.specs.Judge.{on_fault, judged}
use Rattle.judge.specs.Walk.{built_in, stands_before, unknown_at, walked}
use Rattle.judge.specs.Accepted.{FitsBy, AllFit}
use Rattle.judge.proofs.Judging.{err_ok, walk_judges}
use Rattle.judge.proofs.Lowest.{Lowest, lowest_is}

-- a constructed object is a fault
built_faulty : (c : Option Place) (at : ℕ) → stands_before c at ≡ true → unknown_at c ≡ Ok tt → ⊥
built_faulty None at b h = true≢false (sym b)
built_faulty (Some p) at b h = err_ok _ h

and_true : (b : Bool) → (b && true) ≡ false → b ≡ false
and_true true h = h
and_true false h = refl

module _ (k : TextKind) (m : Map) (text : List ℕ) where
  -- an object that breaks no rule fits
  fits : (passed : List Place) (p : Place) (x : Option Entry) → ((rule : ObjectFaultKind) → breaks_by k m text passed (plain p) x rule ≡ false) → FitsBy k m text passed p x
  fits passed p None clean = and_true (own k) (clean UnknownTag)
  fits passed p (Some e) clean =
      record {
        writer = not-false _ (clean OtherWriter);
        sized = not-false _ (clean BadLength);
        digits = not-false _ (clean BadDigits);
        once = clean TagTwice;
        free = clean HeldWithValue;
        early = clean AfterBegin;
      }

  -- of a text whose walk finds no fault, each object fits
  walked_fits : (c : Option Place) (passed ps : List Place) → walked k m text c passed ps ≡ Ok tt → AllFit k m text passed ps
  walked_fits c passed [] h = tt
  walked_fits c passed (p ∷ ps) h = by (stands_before c p.at) refl h (λ g. walked_fits c (passed ++ p ∷ []) ps g)
    where
      onward : (w : Option ObjectFaultKind) → Lowest (breaks k m text passed (plain p)) w → on_fault w p (walked k m text c (passed ++ p ∷ []) ps) ≡ Ok tt → (walked k m text c (passed ++ p ∷ []) ps ≡ Ok tt → AllFit k m text (passed ++ p ∷ []) ps) → AllFit k m text passed (p ∷ ps)
      onward None v g next = (fits passed p (entry_of p.tag) v, next g)
      onward (Some r) v g next = absurd (err_ok _ g)

      by : (b : Bool) → stands_before c p.at ≡ b → cond b (unknown_at c) (on_fault (lowest (breaks k m text passed (plain p))) p (walked k m text c (passed ++ p ∷ []) ps)) ≡ Ok tt → (walked k m text c (passed ++ p ∷ []) ps ≡ Ok tt → AllFit k m text (passed ++ p ∷ []) ps) → AllFit k m text passed (p ∷ ps)
      by true e g next = absurd (built_faulty c p.at e g)
      by false e g next = onward (lowest (breaks k m text passed (plain p))) (lowest_is (breaks k m text passed (plain p))) g next

-- of an accepted text, each object fits
pub accepted_fits : (k : TextKind) (m : Map) (text : List ℕ) (ps : List Place) → meaning text ≡ found ps → judged k m text ≡ Ok tt → AllFit k m text [] ps
accepted_fits k m text ps h a = walked_fits k m text (built_in k text) [] ps (walk_judges k m text ps h ∙ a)
