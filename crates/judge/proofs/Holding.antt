-- What of that which is held a judgement depends on.
use Rattle.std.proofs.Common.{◌≡◌, ℕ, Bool, true, false, not, List, [], ◌∷◌, ◌++◌, Some, None, Option, sym, refl, ap, ◌∙◌}
use Rattle.std.proofs.lemmas.Bool.{true≢false, not_from_false, cond-true}
use Rattle.dictionary.specs.declared.entry.Entry.{Entry}
use Rattle.dictionary.specs.Dictionary.{entry_of}
use Rattle.tlv.specs.declared.place.Place.{Place}
use Rattle.tlv.specs.Series.{Reading, wrong, found, meaning}
use Rattle.store.specs.Map.{Map}
use Rattle.judge.specs.declared.fault.ObjectFaultKind.TheVariants.{OtherWriter}
use Rattle.judge.specs.declared.kind.TextKind.{TextKind}
use Rattle.judge.specs.declared.kind.TextKind.TheVariants.{Configuration, TerminalWrite, CardAnswer}
use Rattle.judge.specs.Kinds.{writes, own}
use Rattle.judge.specs.Objects.{Object, objects_of}
use Rattle.judge.specs.Rules.{has_value, breaks_by, breaks, lowest}
use Rattle.judge.specs.Judge.{on_fault, first_fault, judged_by, judged}
use Rattle.judge.specs.Held.{SameFor}

-- an object of a known tag in a card's text
card_lowest :
    (m n : Map) (text : List ℕ) (passed : List Place) (o : Object) (e : Entry) (b : Bool) → writes CardAnswer e.writer ≡ b →
    (b ≡ true → has_value (m o.place.tag) ≡ has_value (n o.place.tag)) →
    lowest (breaks_by CardAnswer m text passed o (Some e)) ≡ lowest (breaks_by CardAnswer n text passed o (Some e))
card_lowest m n text passed o e true w same = let q = same refl in rw q
card_lowest m n text passed o e false w same =
    let other = not_from_false (writes CardAnswer e.writer) w in
    cond-true (not (writes CardAnswer e.writer)) (Some OtherWriter) _ other ∙ sym (cond-true (not (writes CardAnswer e.writer)) (Some OtherWriter) _ other)

same_lowest : (k : TextKind) (m n : Map) → SameFor k m n → (text : List ℕ) (passed : List Place) (o : Object) → lowest (breaks k m text passed o) ≡ lowest (breaks k n text passed o)
same_lowest Configuration m n same text passed o = refl
same_lowest (TerminalWrite b) m n same text passed o = refl
same_lowest CardAnswer m n same text passed o = by (entry_of o.place.tag) refl
  where
    by : (x : Option Entry) → entry_of o.place.tag ≡ x → lowest (breaks_by CardAnswer m text passed o x) ≡ lowest (breaks_by CardAnswer n text passed o x)
    by None h = refl
    by (Some e) h = card_lowest m n text passed o e (writes CardAnswer e.writer) refl (λ w. same.valued refl o.place.tag e h w)

same_fault : (k : TextKind) (m n : Map) → SameFor k m n → (text : List ℕ) (passed : List Place) (os : List Object) → first_fault k m text passed os ≡ first_fault k n text passed os
same_fault k m n same text passed [] = refl
same_fault k m n same text passed (o ∷ os) =
    ap (λ w. on_fault w o.place (first_fault k m text (passed ++ o.place ∷ []) os)) (same_lowest k m n same text passed o)
    ∙ ap (on_fault (lowest (breaks k n text passed o)) o.place) (same_fault k m n same text (passed ++ o.place ∷ []) os)

pub same_judged : (k : TextKind) (m n : Map) (text : List ℕ) → SameFor k m n → judged k m text ≡ judged k n text
unfolding judged
same_judged k m n text same = by (meaning text)
  where
    by : (x : Reading) → judged_by k m text x ≡ judged_by k n text x
    by (wrong kind at) = refl
    by (found ps) = same_fault k m n same text [] (objects_of k text ps)

-- the judgement of an own text is the same whatever is held
pub own_judged : (k : TextKind) → own k ≡ true → (m n : Map) (text : List ℕ) → judged k m text ≡ judged k n text
own_judged k h m n text = same_judged k m n text (record { valued = λ other. absurd (true≢false (sym h ∙ other)) })
