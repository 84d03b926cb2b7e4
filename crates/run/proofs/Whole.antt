-- The law over whole lists of calls. Assumes nothing.
use Rattle.std.proofs.Common.{◌≡◌, ℕ, ◌≤◌, List, [], ◌∷◌, Some, None, Option, sym, refl, ap, ◌∙◌, subst, arith}
use Rattle.std.proofs.lemmas.Bool.Decides.{nat_tests}
use Rattle.store.specs.Map.{empty, count}
use Rattle.judge.specs.declared.kind.TextKind.TheVariants.{Configuration}
use Rattle.keeping.specs.declared.shares.Shares.{Shares}
use Rattle.keeping.specs.Keeping.{stored_text}
use Rattle.keeping.specs.Opening.{admit_answer}
use Rattle.run.specs.declared.fault.Cause.TheVariants.{Link, Stopped}
use Rattle.run.specs.declared.refusal.Refusal.{Refusal}
use Rattle.run.specs.declared.refusal.Refusal.TheVariants.{AlreadyOpen}
use Rattle.run.specs.State.{Meaning, Limits, holding}
use Rattle.run.specs.Run.{Course, fails, begins, answered}
use Rattle.run.specs.Calls.{Call, write, begin, answer, link_fault, stop, clear, taken, refused, Done, checked, first, refuse_if, not_open, no_command, short_list, short_memory, own_refusal, write_refusal, begin_refusal, beginning, wrong_code, ready_again, follow, Config, configured, start, store_refusal, open_refusal}
use Rattle.run.specs.History.{calls, commands, since, replies_taken, command_waits, run_to, run_commands}
use Rattle.run.specs.Account.{account, own_calls, own_replies, answers, refusal_of}
use Rattle.run.specs.Law.{Roomy, Stands}
use Rattle.run.specs.Theorems.{Opened, turns, EveryCallIsLawful, RefusedCallsChangeNothing, OpeningStands, RefusedOpeningChangesNothing, ReadersStand, CardBytesNeverMoveOwnObjects, AtMost66Commands}
use Rattle.run.proofs.Kept.{first_last, first_first}
use Rattle.run.proofs.Rooms.{roomy_start}
use Rattle.run.proofs.Lawful.{follow_told, stands_on, same_after, lawful}

pub every_call : EveryCallIsLawful
every_call b a c r d = lawful d

-- a check that refuses changes nothing, and what is done else refuses nothing
refused_after : (o : Option Refusal) (m : Meaning) (next : Done) (e : Refusal) → refusal_of next.reply ≡ None → (checked o m next).reply ≡ refused e → (checked o m next).after ≡ m
refused_after None m next e none h = let z : ◌≡◌ {A = Option Refusal} None (Some e) = sym none ∙ ap refusal_of h in absurd (grind (arith, nat_tests, z))
refused_after (Some f) m next e none h = refl

pub unchanged : RefusedCallsChangeNothing
unchanged m (write text work) e h =
    refused_after (first (not_open m) (write_refusal m.shares.terminal m.held m.begun text work)) m (record { reply = taken; after = holding m (stored_text text m.held) }) e refl h
unchanged m (begin fci buffer work) e h =
    let course : Course = begins m.shares.card m.held fci in
    refused_after (first (not_open m) (begin_refusal m.held m.begun buffer work)) m (follow (beginning m) course) e (follow_told (beginning m) course) h
unchanged m (answer bytes buffer work) e h =
    let course : Course = answered m.phase m.shares.card m.held bytes in
    refused_after (first (not_open m) (first (short_memory buffer work) (no_command m))) m (follow m course) e (follow_told m course) h
unchanged m (link_fault code) e h = refused_after (first (not_open m) (first (wrong_code code) (no_command m))) m (follow m (fails (Link code) m.held)) e refl h
unchanged m stop e h = refused_after (first (not_open m) (no_command m)) m (follow m (fails Stopped m.held)) e refl h
unchanged m clear e h = refused_after (not_open m) m (record { reply = taken; after = ready_again m }) e refl h

starts : (config : Config) (limits : Limits) → Roomy (start config limits) → Stands config [] (start config limits)
unfolding calls commands since replies_taken command_waits run_to run_commands account own_calls own_replies answers
starts config limits room = record {
  is_open = refl;
  accounted = record { agrees = record { objects = λ t o. refl; begun = refl; share = refl }; replies = refl };
  counted = record { told = refl; paired = refl; few = omega arith; waiting = refl };
  runs = record { led = refl; handed = refl };
  roomy = room;
}

-- a taken opening has made all its checks
taken_none : (o : Option Refusal) (m : Meaning) (next : Done) → (checked o m next).reply ≡ taken → o ≡ None
taken_none None m next h = refl
taken_none (Some e) m next h = grind (arith, nat_tests, h)

taken_after : (o : Option Refusal) (m : Meaning) (next : Done) → (checked o m next).reply ≡ taken → (checked o m next).after ≡ next.after
taken_after None m next h = refl
taken_after (Some e) m next h = grind (arith, nat_tests, h)

abbrev opening : Meaning → Shares → List ℕ → Done
opening m shares text = record { reply = taken; after = start (configured shares text) m.limits }

roomy_opened : (n : ℕ) (m : Meaning) (shares : Shares) (text : List ℕ) (work : ℕ) → open_refusal n m shares text work ≡ None → Roomy (start (configured shares text) m.limits)
roomy_opened n m shares text work all =
    let own : Option Refusal = own_refusal Configuration shares.configuration empty text in
    let small : Option Refusal = store_refusal (admit_answer shares m.limits.objects m.limits.bytes n) in
    let last : first small own ≡ None = first_last (short_list work) (first small own) (first_last (refuse_if m.opened AlreadyOpen) (first (short_list work) (first small own)) all) in
    roomy_start m.limits shares text n (first_first small own last) (first_last small own last)

-- so it is a start, from a store with room
is_start : (shares : Shares) (text : List ℕ) (m : Meaning) → (o : Opened shares text m) → m ≡ start (configured shares text) o.before.limits
is_start shares text m o =
    o.is ∙ taken_after (open_refusal (count o.before.held) o.before shares text o.work) o.before (opening o.before shares text) o.replied

has_room : (shares : Shares) (text : List ℕ) (m : Meaning) → (o : Opened shares text m) → Roomy (start (configured shares text) o.before.limits)
has_room shares text m o =
    roomy_opened (count o.before.held) o.before shares text o.work
    (taken_none (open_refusal (count o.before.held) o.before shares text o.work) o.before (opening o.before shares text) o.replied)

pub opens : OpeningStands
opens shares text m o =
    subst (Stands (configured shares text) []) (sym (is_start shares text m o)) (starts (configured shares text) o.before.limits (has_room shares text m o))

pub unopened : RefusedOpeningChangesNothing
unopened m shares text work e h = refused_after (open_refusal (count m.held) m shares text work) m (opening m shares text) e refl h

pub stand : ReadersStand
unfolding turns run_to
stand shares text m [] o = opens shares text m o
stand shares text m (c ∷ cs) o = stands_on (configured shares text) (turns m cs) (run_to m cs) c (stand shares text m cs o)

calls_turns : (m : Meaning) (cs : List Call) → calls (turns m cs) ≡ cs
unfolding calls turns
calls_turns m [] = refl
calls_turns m (c ∷ cs) = ap (λ x. c ∷ x) (calls_turns m cs)

pub isolated : CardBytesNeverMoveOwnObjects
isolated shares text m m' xs ys o o' alike =
    same_after (configured shares text) (turns m xs) (turns m' ys) (run_to m xs) (run_to m' ys) (stand shares text m xs o) (stand shares text m' ys o')
    (ap own_calls (calls_turns m xs) ∙ alike ∙ ap own_calls (sym (calls_turns m' ys)))

pub at_most : AtMost66Commands
at_most shares text m cs o =
    let s = (stand shares text m cs o).counted in
    let n : (run_to m cs).count ≤ 66 = omega (arith, s.few) in
    (n, omega (arith, n, s.told))
