-- A card's text against the run's definition. Assumes nothing.
use Rattle.std.proofs.Common.{◌≡◌, ℕ, ◌≤◌, Bool, true, false, cond, ltb, List, length, Ok, Err, Result, sym, refl, ap, ◌∙◌}
use Rattle.std.proofs.lemmas.Bool.{true≢false, cond-true, cond-false, le-ltb}
use Rattle.tlv.specs.Objects.{next_at}
use Rattle.tlv.specs.Series.{Reading, wrong, meaning, most_objects}
use Rattle.tlv.specs.declared.fault.FaultKind.TheVariants.{TagCut}
use Rattle.tlv.specs.declared.place.Place.{Place}
use Rattle.tlv.specs.declared.text.ReadRefusal.{ReadRefusal}
use Rattle.tlv.specs.declared.text.ReadRefusal.TheVariants as read
use Rattle.tlv.specs.Told.{Answer, short, reading, answer_to}
use Rattle.tlv.specs.Told as told
use Rattle.store.specs.Map.{Map, empty}
use Rattle.judge.specs.declared.fault.ObjectFault.{ObjectFault}
use Rattle.judge.specs.declared.kind.TextKind.TheVariants.{CardAnswer}
use Rattle.judge.specs.Judge.{judged}
use Rattle.keeping.specs.declared.shares.Shares.{Shares}
use Rattle.keeping.specs.declared.refusal.TakeRefusal.{TakeRefusal}
use Rattle.keeping.specs.declared.refusal.TakeRefusal.TheVariants.{ListShort, Share}
use Rattle.keeping.specs.Keeping.{stored_text}
use Rattle.keeping.specs.Shares.{writer_total}
use Rattle.keeping.specs.Taking.{on_judged, share_answer, take_answer, take_after}
use Rattle.run.specs.declared.fault.Cause.TheVariants.{OverCardShare}
use Rattle.run.specs.Run.{Course, fails, is_outer, one_object, outer_cause, judged_text, card_text}
use Rattle.run.specs.Numbers.{take_cause}
use Rattle.stages.specs.Courses.{read_cause}

-- a text that is not one object
is_short : Answer → Bool
is_short short = true
is_short (reading x) = false

short_reads : (x : Reading) → short ≡ reading x → ⊥
unfolding is_short
short_reads x e = true≢false (ap is_short e)

reading_of : Answer → Reading
reading_of short = wrong TagCut 0
reading_of (reading x) = x

read_cause_lem : (r : Result ℕ ReadRefusal) (list : List Place) (x : Reading) → told.answered r list ≡ reading x → read_cause r ≡ outer_cause x
unfolding reading_of
read_cause_lem (Ok n) list x e = ap outer_cause (ap reading_of e)
read_cause_lem (Err read.ListShort) list x e = absurd (short_reads x e)
read_cause_lem (Err (read.Fault f)) list x e = ap outer_cause (ap reading_of e)

pub not_outer : (outer share room : ℕ) (held : Map) (text : List ℕ) (next : Map → Map → Course) (r : Result ℕ ReadRefusal) (list : List Place)
    → 64 ≤ room → is_outer outer (next_at (length text) text) ≡ false → told.answered r list ≡ answer_to room text
    → card_text outer share held text next ≡ fails (read_cause r) held
unfolding card_text one_object
not_outer outer share room held text next r list wide other answer =
    let same = read_cause_lem r list (meaning text) (answer ∙ cond-false (ltb room most_objects) short (reading (meaning text)) (le-ltb room most_objects wide)) in
    cond-false (is_outer outer (next_at (length text) text)) (judged_text share held text next (judged CardAnswer held text)) (fails (outer_cause (meaning text)) held) other
    ∙ ap (λ y. fails y held) (sym same)

-- a text that is: what taking it answers, as a course
abbrev pub answer_course : Result (Unit {0}) TakeRefusal → Map → Map → (Map → Map → Course) → Course
answer_course (Ok x) held brought next = next held brought
answer_course (Err e) held brought next = fails (take_cause e) held

module _ (share : ℕ) (held : Map) (text : List ℕ) (next : Map → Map → Course) where
  weighed : (b : Bool) → cond b (fails OverCardShare held) (next (stored_text text held) (stored_text text empty))
      ≡ answer_course (cond b (Err Share) (Ok tt)) (take_after (cond b (Err Share) (Ok tt)) text held) (stored_text text empty) next
  weighed true = refl
  weighed false = refl

  judged_course : (b : Bool) → b ≡ ltb share (writer_total CardAnswer (stored_text text held)) → (j : Result (Unit {0}) ObjectFault) → judged_text share held text next j
      ≡ answer_course (on_judged j (cond b (Err Share) (Ok tt))) (take_after (on_judged j (cond b (Err Share) (Ok tt))) text held) (stored_text text empty) next
  judged_course b e (Err f) = refl
  judged_course b e (Ok x) =
      ap (λ z. cond z (fails OverCardShare held) (next (stored_text text held) (stored_text text empty))) (sym e) ∙ weighed b

pub one_taken : (s : Shares) (outer room : ℕ) (held held' : Map) (text : List ℕ) (next : Map → Map → Course) (a : Result (Unit {0}) TakeRefusal)
    → 64 ≤ room → is_outer outer (next_at (length text) text) ≡ true → a ≡ take_answer s CardAnswer room held text → held' ≡ take_after a text held
    → card_text outer s.card held text next ≡ answer_course a held' (stored_text text empty) next
unfolding card_text one_object
one_taken s outer room held held' text next a wide one answer after =
    let j = judged CardAnswer held text in
    let w = share_answer s CardAnswer held text in
    let same : a ≡ on_judged j w = answer ∙ cond-false (ltb room most_objects) (Err ListShort) (on_judged j w) (le-ltb room most_objects wide) in
    cond-true (is_outer outer (next_at (length text) text)) (judged_text s.card held text next j) (fails (outer_cause (meaning text)) held) one
    ∙ judged_course s.card held text next (ltb s.card (writer_total CardAnswer (stored_text text held))) refl j
    ∙ ap (λ x. answer_course x (take_after x text held) (stored_text text empty) next) (sym same)
    ∙ ap (λ x. answer_course a x (stored_text text empty) next) (sym after)

-- a number is no error
is_ok : {X Y : Type 0} → Result X Y → Bool
is_ok (Ok x) = true
is_ok (Err e) = false

pub not_error : {X Y : Type 0} {x : X} {y : Y} → ◌≡◌ {A = Result X Y} (Ok x) (Err y) → ⊥
unfolding is_ok
not_error e = true≢false (ap is_ok e)
