-- Replies and ends by their numbers, as whoever calls the reader sees them, and a whole list of calls.
use Rattle.std.specs.Prelude.{ℕ, List, [], ◌∷◌, Some, None, Ok, Err, Option, Result}
use Rattle.judge.specs.declared.fault.ObjectFault.{ObjectFault}
use Rattle.keeping.specs.Room.{verification_results, error_indication}
use Rattle.commands.specs.Commands.{bytes}
use Rattle.run.specs.declared.fault.RunFault.{RunFault}
use Rattle.run.specs.declared.outcome.OutcomeReport.{OutcomeReport}
use Rattle.run.specs.declared.refusal.Refusal.{Refusal}
use Rattle.run.specs.Numbers.{refusal_told, fault_told, cause_marks, carried_fault, result_number, outcome_fault, phase_number}
use Rattle.run.specs.State.{Meaning}
use Rattle.run.specs.Calls.{Call, Reply, taken, command, run_ended, refused, step, outcome_read, phase_read, count_read}

-- taken; a command; the run ended; refused, with number, kind, place and tag
pub data Shown : Type 0 where
  takes : Shown
  hands : List ℕ → Shown
  ends : Shown
  refuses : (number kind place tag : ℕ) → Shown

-- a reply as it is seen
abbrev pub shown : Reply → Shown
shown taken = takes
shown (command bytes) = hands bytes
shown run_ended = ends
shown (refused e) = refuses (refusal_told e).number (refusal_told e).kind (refusal_told e).place (refusal_told e).tag

-- an object fault by the number of its refusal, its kind, place and tag; zeros for none
abbrev pub fault_shown : Option ObjectFault → List ℕ
fault_shown None = 0 ∷ 0 ∷ 0 ∷ 0 ∷ []
fault_shown (Some f) = (fault_told f).number ∷ (fault_told f).kind ∷ (fault_told f).place ∷ (fault_told f).tag ∷ []

-- L1, L2, phase, SFI, record number, missing tag, and the fault carried; nothing for results 1 to 3
abbrev pub run_fault_shown : Option RunFault → List ℕ
run_fault_shown None = []
run_fault_shown (Some f) =
    (cause_marks f.cause).l1 ∷ (cause_marks f.cause).l2 ∷ phase_number f.phase ∷ f.awaited.sfi ∷ f.awaited.number ∷ (cause_marks f.cause).missing ∷ fault_shown (carried_fault f.cause)

-- the result and the run's fault; nothing where there is no outcome
abbrev pub outcome_shown : Result OutcomeReport Refusal → List ℕ
outcome_shown (Err e) = []
outcome_shown (Ok r) = result_number r.outcome ∷ run_fault_shown (outcome_fault r.outcome)

-- whether the outcome was told
abbrev pub outcome_asked : Result OutcomeReport Refusal → Shown
outcome_asked (Err e) = shown (refused e)
outcome_asked (Ok r) = takes

-- What some calls, in their order, show, and at last: phase, count, the end, TVR, Error Indication and floor limit.
pub record Seen : Type 0 where
  pub replies : List Shown
  pub phase : ℕ
  pub count : ℕ
  pub end : List ℕ
  pub tvr : List ℕ
  pub indication : List ℕ
  pub floor : List ℕ

-- after the last call
abbrev pub at_last : Meaning → Seen
at_last m = record {
  replies = [];
  phase = phase_read m;
  count = count_read m;
  end = outcome_shown (outcome_read m);
  tvr = bytes (m.held verification_results);
  indication = bytes (m.held error_indication);
  floor = bytes (m.held 0xDF_8123);
}

-- one reply before others
abbrev pub after_reply : Shown → Seen → Seen
after_reply r s = record { replies = r ∷ s.replies; phase = s.phase; count = s.count; end = s.end; tvr = s.tvr; indication = s.indication; floor = s.floor }

-- the calls one after the other
abbrev pub seen : Meaning → List Call → Seen
seen m [] = at_last m
seen m (c ∷ cs) = after_reply (shown (step m c).reply) (seen (step m c).after cs)
