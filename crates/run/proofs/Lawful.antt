-- Every call keeps the law.
use Rattle.std.proofs.Common.{◌≡◌, ℕ, true, not, List, ◌∷◌, None, Option, sym, refl, ap, ◌∙◌, subst, ap₂}
use Rattle.keeping.specs.Keeping.{stored_text}
use Rattle.run.specs.declared.fault.Cause.TheVariants.{Link, Stopped}
use Rattle.run.specs.declared.refusal.Refusal.{Refusal}
use Rattle.run.specs.declared.refusal.Refusal.TheVariants.{NotOpen}
use Rattle.run.specs.State.{Limits, Meaning, holding}
use Rattle.run.specs.Run.{Course, hands_out, fails, comes_to, begins, answered}
use Rattle.run.specs.Calls.{Call, write, begin, answer, link_fault, stop, clear, Reply, taken, Done, first, refuse_if, not_open, no_command, short_memory, write_refusal, begin_refusal, wrong_code, follow, beginning, ready_again, Config, start, step}
use Rattle.run.specs.History.{History, turn, calls, commands, also_command, run_to, run_commands}
use Rattle.run.specs.Account.{Account, own_write, own_begin, own_clear, verdict, take, account, answers, own_calls, own_replies, refusal_of, Alike}
use Rattle.run.specs.Law.{left, Agrees, Accounted, Counted, Runs, Roomy, Stands, Same, Does, Lawful}
use Rattle.run.proofs.Courses.{stay, sane_begins, sane_answered}
use Rattle.run.proofs.Kept.{Fixed, fixed_follow, fixed_checked, first_last, opened_first, command_there, fed_checked, told_checked, agrees_checked, agrees_follow, write_same, written_same, begin_same, cleared_same}
use Rattle.run.proofs.Rooms.{roomy_checked, roomy_follow, roomy_write, roomy_clear}
use Rattle.run.proofs.Counts.{counted_checked, counted_write, counted_clear, counted_begin, counted_answer, counted_link, counted_stop}

-- What a reader was opened with stays, whatever is called.
fixed : (b : Meaning) (c : Call) → Fixed b (step b c).after
fixed b (write text work) = fixed_checked (first (not_open b) (write_refusal b.shares.terminal b.held b.begun text work)) b _ (record { opened = refl; limits = refl; shares = refl })
fixed b (begin fci buffer work) =
    let f = fixed_follow (beginning b) (begins b.shares.card b.held fci) in
    fixed_checked (first (not_open b) (begin_refusal b.held b.begun buffer work)) b (follow (beginning b) (begins b.shares.card b.held fci)) (record { opened = f.opened; limits = f.limits; shares = f.shares })
fixed b (answer bytes buffer work) =
    fixed_checked (first (not_open b) (first (short_memory buffer work) (no_command b))) b (follow b (answered b.phase b.shares.card b.held bytes)) (fixed_follow b (answered b.phase b.shares.card b.held bytes))
fixed b (link_fault code) =
    fixed_checked (first (not_open b) (first (wrong_code code) (no_command b))) b (follow b (fails (Link code) b.held)) (fixed_follow b (fails (Link code) b.held))
fixed b stop = fixed_checked (first (not_open b) (no_command b)) b (follow b (fails Stopped b.held)) (fixed_follow b (fails Stopped b.held))
fixed b clear = fixed_checked (not_open b) b (record { reply = taken; after = ready_again b }) (record { opened = refl; limits = refl; shares = refl })

-- The run goes on by one call.
runs_on : (config : Config) (past : History) (b : Meaning) (c : Call) → Runs config past b → Runs config (turn c (step b c).reply ∷ past) (step b c).after
unfolding calls commands run_to run_commands
runs_on config past b c s =
    let back : (l : Limits) → l ≡ b.limits → b ≡ run_to (start config l) (calls past) = λ l e. s.led ∙ ap (λ x. run_to (start config x) (calls past)) (sym e) in
    let same : (step b c).after.limits ≡ b.limits = (fixed b c).limits in
    record {
      led = ap (λ m. (step m c).after) (back (step b c).after.limits same);
      handed = ap₂ also_command (ap (λ m. (step m c).reply) (back (step b c).after.limits same)) (s.handed ∙ ap (λ x. run_commands (start config x) (calls past)) (sym same));
    }

-- Own calls: the account is fed with them, and answers as the reader does.
account_of : Config → History → Account
account_of config past = account config (own_calls (calls past))

write_verdict : (b : Meaning) (a : Account) (text : List ℕ) (work : ℕ) → b.opened ≡ true → Agrees b a → first (not_open b) (write_refusal b.shares.terminal b.held b.begun text work) ≡ verdict a (own_write text work)
unfolding verdict
write_verdict b a text work is g =
    opened_first b (write_refusal b.shares.terminal b.held b.begun text work) is
    ∙ write_same b.shares.terminal b.held a.objects b.begun text work g.objects
    ∙ ap₂ (λ share begun. write_refusal share a.objects begun text work) g.share g.begun

written_agrees : (b : Meaning) (a : Account) (text : List ℕ) (work : ℕ) → Agrees b a → Agrees (holding b (stored_text text b.held)) (take a (own_write text work))
unfolding take
written_agrees b a text work g = record {
  objects = λ t o. written_same b.held a.objects text g.objects t o;
  begun = g.begun;
  share = g.share;
}

begin_verdict : (b : Meaning) (a : Account) (buffer work : ℕ) → b.opened ≡ true → Agrees b a → first (not_open b) (begin_refusal b.held b.begun buffer work) ≡ verdict a (own_begin buffer work)
unfolding verdict
begin_verdict b a buffer work is g =
    opened_first b (begin_refusal b.held b.begun buffer work) is
    ∙ begin_same b.held a.objects b.begun buffer work g.objects
    ∙ ap (λ begun. begin_refusal a.objects begun buffer work) g.begun

begun_agrees : (b : Meaning) (a : Account) (fci : List ℕ) (buffer work : ℕ) → Agrees b a → Agrees (follow (beginning b) (begins b.shares.card b.held fci)).after (take a (own_begin buffer work))
unfolding take
begun_agrees b a fci buffer work g =
    agrees_follow (beginning b) (begins b.shares.card b.held fci) 66 (take a (own_begin buffer work)) (sane_begins b.shares.card b.held fci)
    (record { objects = g.objects; begun = refl; share = g.share })

clear_verdict : (b : Meaning) (a : Account) → b.opened ≡ true → not_open b ≡ verdict a own_clear
unfolding verdict
clear_verdict b a is = ap (λ v. refuse_if (not v) NotOpen) is

cleared_agrees : (b : Meaning) (a : Account) → Agrees b a → Agrees (ready_again b) (take a own_clear)
unfolding take
cleared_agrees b a g = record { objects = cleared_same b.held a.objects g.objects; begun = refl; share = g.share }

-- a course ends or hands out, and so does not refuse
pub follow_told : (b : Meaning) (c : Course) → refusal_of (follow b c).reply ≡ None
follow_told b (hands_out bs phase held) = refl
follow_told b (fails c held) = refl
follow_told b (comes_to o held) = refl

accounted_on : (config : Config) (past : History) (b : Meaning) (c : Call) → b.opened ≡ true → Accounted config past b → Accounted config (turn c (step b c).reply ∷ past) (step b c).after
unfolding calls own_calls own_replies account answers account_of
accounted_on config past b (write text work) is s =
    let a : Account = account config (own_calls (calls past)) in
    let o : Option Refusal = first (not_open b) (write_refusal b.shares.terminal b.held b.begun text work) in
    let next : Done = record { reply = taken; after = holding b (stored_text text b.held) } in
    let same : o ≡ verdict a (own_write text work) = write_verdict b a text work is s.agrees in
    record {
      agrees = fed_checked o b next a (own_write text work) same s.agrees (written_agrees b a text work s.agrees);
      replies = ap₂ ◌∷◌ (told_checked o b next refl ∙ same) s.replies;
    }
accounted_on config past b (begin fci buffer work) is s =
    let a : Account = account config (own_calls (calls past)) in
    let o : Option Refusal = first (not_open b) (begin_refusal b.held b.begun buffer work) in
    let course : Course = begins b.shares.card b.held fci in
    let next : Done = follow (beginning b) course in
    let same : o ≡ verdict a (own_begin buffer work) = begin_verdict b a buffer work is s.agrees in
    record {
      agrees = fed_checked o b next a (own_begin buffer work) same s.agrees (begun_agrees b a fci buffer work s.agrees);
      replies = ap₂ ◌∷◌ (told_checked o b next (follow_told (beginning b) course) ∙ same) s.replies;
    }
accounted_on config past b (answer bytes buffer work) is s =
    let course : Course = answered b.phase b.shares.card b.held bytes in
    record {
      agrees = agrees_checked (first (not_open b) (first (short_memory buffer work) (no_command b))) b (follow b course) (account config (own_calls (calls past))) s.agrees
          (agrees_follow b course (left b.phase) (account config (own_calls (calls past))) (sane_answered b.phase b.shares.card b.held bytes) s.agrees);
      replies = s.replies;
    }
accounted_on config past b (link_fault code) is s = record {
  agrees = agrees_checked (first (not_open b) (first (wrong_code code) (no_command b))) b (follow b (fails (Link code) b.held)) (account config (own_calls (calls past))) s.agrees
      (agrees_follow b (fails (Link code) b.held) 0 (account config (own_calls (calls past))) (stay b.shares.card b.held) s.agrees);
  replies = s.replies;
}
accounted_on config past b stop is s = record {
  agrees = agrees_checked (first (not_open b) (no_command b)) b (follow b (fails Stopped b.held)) (account config (own_calls (calls past))) s.agrees
      (agrees_follow b (fails Stopped b.held) 0 (account config (own_calls (calls past))) (stay b.shares.card b.held) s.agrees);
  replies = s.replies;
}
accounted_on config past b clear is s =
    let a : Account = account config (own_calls (calls past)) in
    let next : Done = record { reply = taken; after = ready_again b } in
    let same : not_open b ≡ verdict a own_clear = clear_verdict b a is in
    record {
      agrees = fed_checked (not_open b) b next a own_clear same s.agrees (cleared_agrees b a s.agrees);
      replies = ap₂ ◌∷◌ (told_checked (not_open b) b next refl ∙ same) s.replies;
    }

counted_on : (past : History) (b : Meaning) (c : Call) → Counted past b → Counted (turn c (step b c).reply ∷ past) (step b c).after
counted_on past b (write text work) s =
    counted_checked past (first (not_open b) (write_refusal b.shares.terminal b.held b.begun text work)) b (write text work)
    (record { reply = taken; after = holding b (stored_text text b.held) }) s
    (λ _. counted_write past b text work (stored_text text b.held) s)
counted_on past b (begin fci buffer work) s =
    let course : Course = begins b.shares.card b.held fci in
    counted_checked past (first (not_open b) (begin_refusal b.held b.begun buffer work)) b (begin fci buffer work) (follow (beginning b) course) s
    (λ _. counted_begin past b fci buffer work course (sane_begins b.shares.card b.held fci))
counted_on past b (answer bytes buffer work) s =
    let course : Course = answered b.phase b.shares.card b.held bytes in
    counted_checked past (first (not_open b) (first (short_memory buffer work) (no_command b))) b (answer bytes buffer work) (follow b course) s
    (λ fine. counted_answer bytes buffer work past b course
    (command_there b (first_last (short_memory buffer work) (no_command b) (first_last (not_open b) (first (short_memory buffer work) (no_command b)) fine)))
    (sane_answered b.phase b.shares.card b.held bytes) s)
counted_on past b (link_fault code) s =
    let wrong : Option Refusal = wrong_code code in
    counted_checked past (first (not_open b) (first wrong (no_command b))) b (link_fault code) (follow b (fails (Link code) b.held)) s
    (λ fine. counted_link code past b (fails (Link code) b.held)
    (command_there b (first_last wrong (no_command b) (first_last (not_open b) (first wrong (no_command b)) fine))) (stay b.shares.card b.held) s)
counted_on past b stop s =
    counted_checked past (first (not_open b) (no_command b)) b stop (follow b (fails Stopped b.held)) s
    (λ fine. counted_stop past b (fails Stopped b.held) (command_there b (first_last (not_open b) (no_command b) fine)) (stay b.shares.card b.held) s)
counted_on past b clear s =
    counted_checked past (not_open b) b clear (record { reply = taken; after = ready_again b }) s (λ _. counted_clear past b)

-- The store goes on having room.
roomy_on : (b : Meaning) (c : Call) → Roomy b → Roomy (step b c).after
roomy_on b (write text work) r =
    let o : Option Refusal = write_refusal b.shares.terminal b.held b.begun text work in
    roomy_checked (first (not_open b) o) b (record { reply = taken; after = holding b (stored_text text b.held) }) r
    (λ fine. roomy_write b text work r (first_last (not_open b) o fine))
roomy_on b (begin fci buffer work) r =
    let course : Course = begins b.shares.card b.held fci in
    roomy_checked (first (not_open b) (begin_refusal b.held b.begun buffer work)) b (follow (beginning b) course) r
    (λ _. roomy_follow (beginning b) 66 course (sane_begins b.shares.card b.held fci) r)
roomy_on b (answer bytes buffer work) r =
    let course : Course = answered b.phase b.shares.card b.held bytes in
    roomy_checked (first (not_open b) (first (short_memory buffer work) (no_command b))) b (follow b course) r
    (λ _. roomy_follow b (left b.phase) course (sane_answered b.phase b.shares.card b.held bytes) r)
roomy_on b (link_fault code) r =
    roomy_checked (first (not_open b) (first (wrong_code code) (no_command b))) b (follow b (fails (Link code) b.held)) r
    (λ _. roomy_follow b 0 (fails (Link code) b.held) (stay b.shares.card b.held) r)
roomy_on b stop r =
    roomy_checked (first (not_open b) (no_command b)) b (follow b (fails Stopped b.held)) r
    (λ _. roomy_follow b 0 (fails Stopped b.held) (stay b.shares.card b.held) r)
roomy_on b clear r = roomy_checked (not_open b) b (record { reply = taken; after = ready_again b }) r (λ _. roomy_clear b r)

-- A reader that stands goes on standing.
pub stands_on : (config : Config) (past : History) (b : Meaning) (c : Call) → Stands config past b → Stands config (turn c (step b c).reply ∷ past) (step b c).after
stands_on config past b c s = record {
  is_open = (fixed b c).opened ∙ s.is_open;
  accounted = accounted_on config past b c s.is_open s.accounted;
  counted = counted_on past b c s.counted;
  runs = runs_on config past b c s.runs;
  roomy = roomy_on b c s.roomy;
}

-- Two that stand after the same of the terminal's are the same in what is the terminal's.
pub same_after : (config : Config) (past past' : History) (m m' : Meaning) → Stands config past m → Stands config past' m' → Alike (calls past) (calls past') → Same past past' m m'
same_after config past past' m m' s s' alike = record {
  objects = λ t o. s.accounted.agrees.objects t o ∙ ap (λ cs. (account config cs).objects t) alike ∙ sym (s'.accounted.agrees.objects t o);
  replies = s.accounted.replies ∙ ap (answers config) alike ∙ sym s'.accounted.replies;
}

pub kept : (b a : Meaning) (c : Call) (r : Reply) → Does b c r a → (config : Config) (past : History) → Stands config past b → Stands config (turn c r ∷ past) a
kept b a c r d config past s =
    subst (λ m. Stands config (turn c r ∷ past) m) (sym d.moved) (subst (λ q. Stands config (turn c q ∷ past) (step b c).after) (sym d.replied) (stands_on config past b c s))

pub lawful : {b a : Meaning} {c : Call} {r : Reply} → Does b c r a → Lawful b c r a
lawful {b} {a} {c} {r} d = record {
  stands = kept b a c r d;
  isolated = λ config past s past' m' s'. same_after config (turn c r ∷ past) past' a m' (kept b a c r d config past s) s';
}

-- The same for a call that does what its definition says wherever the store has room, as it has in every reader that stands.
pub lawful_roomy : {b a : Meaning} {c : Call} {r : Reply} → (Roomy b → Does b c r a) → Lawful b c r a
lawful_roomy {b} {a} {c} {r} d = record {
  stands = λ config past s. kept b a c r (d s.roomy) config past s;
  isolated = λ config past s past' m' s'. same_after config (turn c r ∷ past) past' a m' (kept b a c r (d s.roomy) config past s) s';
}
