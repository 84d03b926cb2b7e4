-- How a text is refused, and what it leads to, by the answer of taking it. Assumes nothing.
use Rattle.std.proofs.Common.{◌≡◌, ℕ, ◌≤◌, Bool, true, false, cond, ltb, List, Some, None, Ok, Err, Option, Result, sym, refl, ap, ◌∙◌}
use Rattle.std.proofs.lemmas.Bool.{le-ltb, cond-false}
use Rattle.tlv.specs.Series.{most_objects}
use Rattle.store.specs.Map.{Map, empty}
use Rattle.judge.specs.declared.fault.ObjectFault.{ObjectFault}
use Rattle.judge.specs.declared.kind.TextKind.{TextKind}
use Rattle.judge.specs.declared.kind.TextKind.TheVariants.{TerminalWrite, CardAnswer}
use Rattle.judge.specs.Judge.{judged}
use Rattle.keeping.specs.declared.shares.Shares.{Shares}
use Rattle.keeping.specs.declared.refusal.TakeRefusal.{TakeRefusal}
use Rattle.keeping.specs.declared.refusal.TakeRefusal.TheVariants.{ListShort, Fault, Share}
use Rattle.keeping.specs.Keeping.{stored_text}
use Rattle.keeping.specs.Shares.{writer_total, share_of}
use Rattle.keeping.specs.Taking.{on_judged, share_answer, take_answer}
use Rattle.run.specs.declared.fault.Cause.TheVariants.{Faulty, OverCardShare}
use Rattle.run.specs.declared.refusal.Refusal.{Refusal}
use Rattle.run.specs.declared.refusal.Refusal.TheVariants.{Short, OverShare}
use Rattle.run.specs.Numbers.{take_refused}
use Rattle.run.specs.Run.{Course, fails, judged_text}
use Rattle.run.specs.Calls.{first, refuse_if, short_list, on_judgement, own_refusal, write_refusal}

-- a text that is not taken is a refusal
abbrev pub take_refusal : Result (Unit {0}) TakeRefusal → Option Refusal
take_refusal (Ok x) = None
take_refusal (Err e) = Some (take_refused e)

own_taken : (share n : ℕ) (r : Result (Unit {0}) ObjectFault) → on_judgement r (refuse_if (ltb share n) OverShare) ≡ take_refusal (on_judged r (cond (ltb share n) (Err Share) (Ok tt)))
own_taken share n (Err f) = refl
own_taken share n (Ok x) = by (ltb share n)
  where
    by : (b : Bool) → refuse_if b OverShare ≡ take_refusal (cond b (Err Share) (Ok tt))
    by true = refl
    by false = refl

-- an own text, the work list looked at first
pub text_taken : (s : Shares) (k : TextKind) (work : ℕ) (held : Map) (text : List ℕ) → first (short_list work) (own_refusal k (share_of s k) held text) ≡ take_refusal (take_answer s k work held text)
text_taken s k work held text = by (ltb work most_objects)
  where
    by : (b : Bool) → first (refuse_if b Short) (own_refusal k (share_of s k) held text) ≡ take_refusal (cond b (Err ListShort) (on_judged (judged k held text) (share_answer s k held text)))
    by true = refl
    by false = own_taken (share_of s k) (writer_total k (stored_text text held)) (judged k held text)

pub write_taken : (s : Shares) (held : Map) (begun : Bool) (text : List ℕ) (work : ℕ) → write_refusal s.terminal held begun text work ≡ take_refusal (take_answer s (TerminalWrite begun) work held text)
write_taken s held begun text work = text_taken s (TerminalWrite begun) work held text

-- a text of the card's, where the work list is long enough
abbrev pub taken_text : Map → List ℕ → (Map → Map → Course) → Result (Unit {0}) TakeRefusal → Course
taken_text held text next (Ok x) = next (stored_text text held) (stored_text text empty)
taken_text held text next (Err ListShort) = fails OverCardShare held
taken_text held text next (Err (Fault f)) = fails (Faulty f) held
taken_text held text next (Err Share) = fails OverCardShare held

judged_taken : (share : ℕ) (held : Map) (text : List ℕ) (next : Map → Map → Course) (r : Result (Unit {0}) ObjectFault) → judged_text share held text next r ≡ taken_text held text next (on_judged r (cond (ltb share (writer_total CardAnswer (stored_text text held))) (Err Share) (Ok tt)))
judged_taken share held text next (Err f) = refl
judged_taken share held text next (Ok x) = by (ltb share (writer_total CardAnswer (stored_text text held)))
  where
    by : (b : Bool) → cond b (fails OverCardShare held) (next (stored_text text held) (stored_text text empty)) ≡ taken_text held text next (cond b (Err Share) (Ok tt))
    by true = refl
    by false = refl

pub card_taken : (s : Shares) (work : ℕ) (held : Map) (text : List ℕ) (next : Map → Map → Course) → most_objects ≤ work → judged_text s.card held text next (judged CardAnswer held text) ≡ taken_text held text next (take_answer s CardAnswer work held text)
card_taken s work held text next long =
    judged_taken s.card held text next (judged CardAnswer held text)
    ∙ ap (taken_text held text next) (sym (cond-false (ltb work most_objects) (Err ListShort) (on_judged (judged CardAnswer held text) (share_answer s CardAnswer held text)) (le-ltb work most_objects long)))
