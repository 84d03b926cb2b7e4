-- The store has room for what every call leaves. Assumes nothing.
use Rattle.std.proofs.Common.{◌≡◌, ℕ, ◌≤◌, Bool, true, false, cond, not, ◌||◌, eqb, ltb, List, Some, None, Ok, Err, Option, Result, refl, arith}
use Rattle.std.proofs.lemmas.Bool.Decides.{nat_tests}
use Rattle.std.proofs.lemmas.Bool.{ltb-false}
use Rattle.tlv.specs.Series.{meaning}
use Rattle.store.specs.Map.{Map, empty}
use Rattle.judge.specs.declared.fault.ObjectFault.{ObjectFault}
use Rattle.judge.specs.declared.kind.TextKind.{TextKind}
use Rattle.judge.specs.declared.kind.TextKind.TheVariants.{Configuration, TerminalWrite}
use Rattle.judge.specs.Judge.{judged}
use Rattle.keeping.specs.declared.shares.Shares.{Shares}
use Rattle.keeping.specs.declared.refusal.StoreRefusal.TheVariants.{HoldsObjects, TooSmall}
use Rattle.keeping.specs.Keeping.{places_read, stored_text}
use Rattle.keeping.specs.Shares.{writer_total}
use Rattle.keeping.specs.Room.{needed_objects, needed_bytes}
use Rattle.keeping.specs.Opening.{admit_answer}
use Rattle.keeping.specs.Clearing.{cleared}
use Rattle.keeping.proofs.Kept.{roomy_stored}
use Rattle.keeping.proofs.Rooms.{roomy_cleared, roomy_empty}
use Rattle.run.specs.declared.refusal.Refusal.{Refusal}
use Rattle.run.specs.declared.refusal.Refusal.TheVariants.{OverShare}
use Rattle.run.specs.Numbers.{indication_of, no_error}
use Rattle.run.specs.State.{Meaning, Limits, holding}
use Rattle.run.specs.Run.{Course, hands_out, fails, comes_to}
use Rattle.run.specs.Calls.{Done, checked, refuse_if, short_list, on_judgement, own_refusal, write_refusal, follow, ready_again, configured, start, store_refusal}
use Rattle.run.specs.Law.{Roomy}
use Rattle.run.proofs.Maps.{accepted_places}
use Rattle.run.proofs.Putting.{indication_roomy}
use Rattle.run.proofs.Courses.{Sane}
use Rattle.run.proofs.Kept.{first_last}

pub roomy_checked : (o : Option Refusal) (b : Meaning) (next : Done) → Roomy b → (o ≡ None → Roomy next.after) → Roomy (checked o b next).after
roomy_checked None b next r goes = goes refl
roomy_checked (Some e) b next r goes = r

pub roomy_follow : (b : Meaning) (n : ℕ) (c : Course) → Sane b.shares.card b.held n c → Roomy b → Roomy (follow b c).after
roomy_follow b n (hands_out bs phase held) s r = s.keeps.roomy b.shares b.limits.objects b.limits.bytes refl r
roomy_follow b n (fails c held) s r =
    indication_roomy b.shares b.limits.objects b.limits.bytes held (indication_of c) (omega arith) (s.roomy b.shares b.limits.objects b.limits.bytes refl r)
roomy_follow b n (comes_to o held) s r =
    indication_roomy b.shares b.limits.objects b.limits.bytes held no_error (omega arith) (s.roomy b.shares b.limits.objects b.limits.bytes refl r)

-- an own text that is not refused was accepted, and is within its share
pub record Fine (k : TextKind) (share : ℕ) (held : Map) (text : List ℕ) : Type 0 where
  pub accepted : judged k held text ≡ Ok tt
  pub within : writer_total k (stored_text text held) ≤ share

pub fine : (k : TextKind) (share : ℕ) (held : Map) (text : List ℕ) → own_refusal k share held text ≡ None → Fine k share held text
fine k share held text h = by (judged k held text) refl h
  where
    share_kept : (v : Bool) → ltb share (writer_total k (stored_text text held)) ≡ v → refuse_if v OverShare ≡ None → writer_total k (stored_text text held) ≤ share
    share_kept true is h' = grind (arith, nat_tests, h')
    share_kept false is h' = omega (arith, ltb-false, is)

    by : (r : Result (Unit {0}) ObjectFault) → judged k held text ≡ r → on_judgement r (refuse_if (ltb share (writer_total k (stored_text text held))) OverShare) ≡ None → Fine k share held text
    by (Err f) is h' = grind (arith, nat_tests, h')
    by (Ok tt) is h' = record { accepted = is; within = share_kept (ltb share (writer_total k (stored_text text held))) refl h' }

pub roomy_write : (b : Meaning) (text : List ℕ) (work : ℕ) → Roomy b → write_refusal b.shares.terminal b.held b.begun text work ≡ None → Roomy (holding b (stored_text text b.held))
roomy_write b text work r none =
    let f = fine (TerminalWrite b.begun) b.shares.terminal b.held text (first_last (short_list work) (own_refusal (TerminalWrite b.begun) b.shares.terminal b.held text) none) in
    roomy_stored b.shares b.limits.objects b.limits.bytes (TerminalWrite b.begun) b.held text (places_read (meaning text))
    (accepted_places (TerminalWrite b.begun) b.held text f.accepted) f.within r

pub roomy_clear : (b : Meaning) → Roomy b → Roomy (ready_again b)
roomy_clear b r = roomy_cleared b.held (cleared b.held) refl b.shares b.limits.objects b.limits.bytes b.limits.objects b.limits.bytes refl refl r

-- opening
large_enough : (s : Shares) (objects bytes n : ℕ) → store_refusal (admit_answer s objects bytes n) ≡ None → (needed_objects ≤ objects) × (needed_bytes s ≤ bytes)
large_enough s objects bytes n h = by (eqb n 0) (ltb objects needed_objects) (ltb bytes (needed_bytes s)) refl refl h
  where
    by : (e x y : Bool) → ltb objects needed_objects ≡ x → ltb bytes (needed_bytes s) ≡ y → store_refusal (cond (not e) (Err HoldsObjects) (cond (x || y) (Err TooSmall) (Ok tt))) ≡ None → (needed_objects ≤ objects) × (needed_bytes s ≤ bytes)
    by false x y p q h' = grind (arith, nat_tests, h')
    by true true y p q h' = grind (arith, nat_tests, h')
    by true false true p q h' = grind (arith, nat_tests, h')
    by true false false p q h' = (omega (arith, ltb-false, p), omega (arith, ltb-false, q))

pub roomy_start : (limits : Limits) (shares : Shares) (text : List ℕ) (n : ℕ) → store_refusal (admit_answer shares limits.objects limits.bytes n) ≡ None → own_refusal Configuration shares.configuration empty text ≡ None → Roomy (start (configured shares text) limits)
roomy_start limits shares text n large own =
    let f = fine Configuration shares.configuration empty text own in
    let l = large_enough shares limits.objects limits.bytes n large in
    roomy_stored shares limits.objects limits.bytes Configuration empty text (places_read (meaning text)) (accepted_places Configuration empty text f.accepted) f.within
    (roomy_empty empty (λ t. refl) shares limits.objects limits.bytes l.0 l.1)
