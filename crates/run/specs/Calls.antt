-- The calls and what they are told, and each call as a whole: its reply and the reader after it.
use Rattle.std.specs.Prelude.{ℕ, ◌+◌, Bool, true, false, cond, not, ◌||◌, List, [], ◌∷◌, Some, None, Ok, Err, Option, Result, ◌==◌, nat_lt}
use Rattle.store.specs.Map.{Map, empty, changed, count}
use Rattle.judge.specs.declared.fault.ObjectFault.{ObjectFault}
use Rattle.judge.specs.declared.kind.TextKind.{TextKind}
use Rattle.judge.specs.declared.kind.TextKind.TheVariants.{Configuration, TerminalWrite}
use Rattle.judge.specs.Judge.{judged}
use Rattle.keeping.specs.declared.shares.Shares.{Shares}
use Rattle.keeping.specs.declared.refusal.StoreRefusal.{StoreRefusal}
use Rattle.keeping.specs.Keeping.{stored_text}
use Rattle.keeping.specs.Shares.{writer_total}
use Rattle.keeping.specs.Room.{error_indication}
use Rattle.keeping.specs.Opening.{admit_answer}
use Rattle.keeping.specs.Clearing.{cleared}
use Rattle.run.specs.declared.fault.Cause.{Cause}
use Rattle.run.specs.declared.fault.Cause.TheVariants.{Link, Stopped}
use Rattle.run.specs.declared.outcome.Outcome.{Outcome}
use Rattle.run.specs.declared.outcome.Outcome.TheVariants.{EndApplication}
use Rattle.run.specs.declared.outcome.OutcomeReport.{OutcomeReport}
use Rattle.run.specs.declared.refusal.Refusal.{Refusal}
use Rattle.run.specs.declared.refusal.Refusal.TheVariants.{NotOpen, AlreadyOpen, Short, BadText, OverShare, Begun, Needed, NoCommand, LinkCode, NoOutcome}
use Rattle.run.specs.Numbers.{indication_of, no_error, phase_number, store_refused}
use Rattle.run.specs.State.{Phase, ready, awaits_options, awaits_record, awaits_cryptogram, ended, kind_of, record_of, waits, Limits, Meaning, holding}
use Rattle.run.specs.Run.{Course, hands_out, fails, comes_to, first_missing, begins, answered}

-- A call by the bytes that it brings and the lengths of its command buffer and work list.
pub data Call : Type 0 where
  write : (text : List ℕ) (work : ℕ) → Call
  begin : (fci : List ℕ) (buffer work : ℕ) → Call
  answer : (bytes : List ℕ) (buffer work : ℕ) → Call
  link_fault : (code : ℕ) → Call
  stop : Call
  clear : Call

-- What a call is told: taken, a command, the end of the run, or a refusal.
pub data Reply : Type 0 where
  taken : Reply
  command : List ℕ → Reply
  run_ended : Reply
  refused : Refusal → Reply

-- A call's reply and the reader after it.
pub record Done : Type 0 where
  pub reply : Reply
  pub after : Meaning

-- Checks in their order: the first that fails refuses.
abbrev pub first : Option Refusal → Option Refusal → Option Refusal
first (Some e) o = Some e
first None o = o

-- a refusal where the test holds
abbrev pub refuse_if : Bool → Refusal → Option Refusal
refuse_if b e = cond b (Some e) None

-- A refused call changes nothing.
abbrev pub checked : Option Refusal → Meaning → Done → Done
checked (Some e) m next = record { reply = refused e; after = m }
checked None m next = next

-- the reader must be open
abbrev pub not_open : Meaning → Option Refusal
not_open m = refuse_if (not m.opened) NotOpen

-- the elements that a work list needs
abbrev pub work_needed : ℕ
work_needed = 64

-- the bytes that a command buffer needs
abbrev pub buffer_needed : ℕ
buffer_needed = 261

-- the work list must be long enough
abbrev pub short_list : ℕ → Option Refusal
short_list work = refuse_if (nat_lt work work_needed) Short

-- and the command buffer too
abbrev pub short_memory : ℕ → ℕ → Option Refusal
short_memory buffer work = refuse_if (nat_lt buffer buffer_needed || nat_lt work work_needed) Short

-- a command must wait for its answer
abbrev pub no_command : Meaning → Option Refusal
no_command m = refuse_if (not (waits m.phase)) NoCommand

-- a fault refuses, and carries on whole
abbrev pub on_judgement : Result (Unit {0}) ObjectFault → Option Refusal → Option Refusal
on_judgement (Err f) next = Some (BadText f)
on_judgement (Ok x) next = next

-- Own texts: the fault of the text or of an object, then the share, over the objects held so far.
abbrev pub own_refusal : TextKind → ℕ → Map → List ℕ → Option Refusal
own_refusal k share held text =
    on_judgement (judged k held text) (refuse_if (nat_lt share (writer_total k (stored_text text held))) OverShare)

-- How a terminal write is refused: by the terminal's share, what is held, the begun mark, its text and its work list.
abbrev pub write_refusal : ℕ → Map → Bool → List ℕ → ℕ → Option Refusal
write_refusal share held begun text work = first (short_list work) (own_refusal (TerminalWrite begun) share held text)

-- Terminal write: the text is stored.
abbrev pub write_call : Meaning → List ℕ → ℕ → Done
write_call m text work =
    checked (first (not_open m) (write_refusal m.shares.terminal m.held m.begun text work)) m
    (record { reply = taken; after = holding m (stored_text text m.held) })

-- What an end leaves: its outcome, and the Error Indication.
abbrev pub at_end : Meaning → Outcome → List ℕ → Map → Meaning
at_end m o indication held = record {
  opened = m.opened;
  limits = m.limits;
  shares = m.shares;
  held = changed held error_indication (Some indication);
  begun = m.begun;
  phase = ended o;
  count = m.count;
}

-- an end with result 4: its fault has the phase and the record from before the call
abbrev pub failed : Meaning → Cause → Map → Meaning
failed m c held = at_end m (EndApplication (record { phase = kind_of m.phase; awaited = record_of m.phase; cause = c })) (indication_of c) held

-- Where the run's course leads the reader.
abbrev pub follow : Meaning → Course → Done
follow m (hands_out bytes phase held) = record {
  reply = command bytes;
  after = record { opened = m.opened; limits = m.limits; shares = m.shares; held = held; begun = m.begun; phase = phase; count = m.count + 1 };
}
follow m (fails c held) = record { reply = run_ended; after = failed m c held }
follow m (comes_to o held) = record { reply = run_ended; after = at_end m o no_error held }

-- the objects that begin needs, with a value
abbrev pub needed_tags : List ℕ
needed_tags = 0x9F02 ∷ 0x9F35 ∷ 0xDF_8121 ∷ 0xDF_8122 ∷ 0xDF_8123 ∷ 0xDF_856C ∷ []

-- the first that is missing refuses
abbrev pub needs : Option ℕ → Option Refusal
needs None = None
needs (Some t) = Some (Needed t)

-- How a begin is refused: by what is held, the begun mark, its buffer and its work list.
abbrev pub begin_refusal : Map → Bool → ℕ → ℕ → Option Refusal
begin_refusal held begun buffer work =
    first (short_memory buffer work) (first (refuse_if begun Begun) (needs (first_missing needed_tags held)))

-- the begun mark is set, and no command counted yet
abbrev pub beginning : Meaning → Meaning
beginning m = record { opened = m.opened; limits = m.limits; shares = m.shares; held = m.held; begun = true; phase = m.phase; count = 0 }

-- Begin, with any FCI.
abbrev pub begin_call : Meaning → List ℕ → ℕ → ℕ → Done
begin_call m fci buffer work =
    checked (first (not_open m) (begin_refusal m.held m.begun buffer work)) m
    (follow (beginning m) (begins m.shares.card m.held fci))

-- Answer.
abbrev pub answer_call : Meaning → List ℕ → ℕ → ℕ → Done
answer_call m bytes buffer work =
    checked (first (not_open m) (first (short_memory buffer work) (no_command m))) m
    (follow m (answered m.phase m.shares.card m.held bytes))

-- the codes are 1 to 3
abbrev pub wrong_code : ℕ → Option Refusal
wrong_code code = refuse_if (code == 0 || nat_lt 3 code) LinkCode

-- Link fault.
abbrev pub link_call : Meaning → ℕ → Done
link_call m code =
    checked (first (not_open m) (first (wrong_code code) (no_command m))) m
    (follow m (fails (Link code) m.held))

-- Stop.
abbrev pub stop_call : Meaning → Done
stop_call m = checked (first (not_open m) (no_command m)) m (follow m (fails Stopped m.held))

-- only the configuration's objects are held, and no run has begun
abbrev pub ready_again : Meaning → Meaning
ready_again m = record { opened = m.opened; limits = m.limits; shares = m.shares; held = cleared m.held; begun = false; phase = ready; count = 0 }

-- Clear.
abbrev pub clear_call : Meaning → Done
clear_call m = checked (not_open m) m (record { reply = taken; after = ready_again m })

-- Each call.
abbrev pub step : Meaning → Call → Done
step m (write text work) = write_call m text work
step m (begin fci buffer work) = begin_call m fci buffer work
step m (answer bytes buffer work) = answer_call m bytes buffer work
step m (link_fault code) = link_call m code
step m stop = stop_call m
step m clear = clear_call m

-- What a reader is opened with: the configuration's objects, and the shares.
pub record Config : Type 0 where
  pub objects : Map
  pub shares : Shares

-- a reader that was just opened
abbrev pub start : Config → Limits → Meaning
start config limits = record {
  opened = true;
  limits = limits;
  shares = config.shares;
  held = config.objects;
  begun = false;
  phase = ready;
  count = 0;
}

-- with a configuration's text that was taken
abbrev pub configured : Shares → List ℕ → Config
configured shares text = record { objects = stored_text text empty; shares = shares }

-- the store does not serve
abbrev pub store_refusal : Result (Unit {0}) StoreRefusal → Option Refusal
store_refusal (Ok x) = None
store_refusal (Err e) = Some (store_refused e)

-- How an opening over a store that holds n objects is refused: the reader is open, the work list is short, the store does
-- not serve; then the configuration's text and its share.
abbrev pub open_refusal : ℕ → Meaning → Shares → List ℕ → ℕ → Option Refusal
open_refusal n m shares text work =
    first (refuse_if m.opened AlreadyOpen)
    (first (short_list work)
    (first (store_refusal (admit_answer shares m.limits.objects m.limits.bytes n))
    (own_refusal Configuration shares.configuration empty text)))

-- Opening, over a store that holds n objects.
abbrev pub open_over : ℕ → Meaning → Shares → List ℕ → ℕ → Done
open_over n m shares text work =
    checked (open_refusal n m shares text work) m
    (record { reply = taken; after = start (configured shares text) m.limits })

-- Opening: the store holds as many objects as its map.
abbrev pub open_call : Meaning → Shares → List ℕ → ℕ → Done
open_call m shares text work = open_over (count m.held) m shares text work

-- only an ended run has an outcome
abbrev pub outcome_by : Phase → ℕ → Result OutcomeReport Refusal
outcome_by ready n = Err NoOutcome
outcome_by awaits_options n = Err NoOutcome
outcome_by (awaits_record r rs) n = Err NoOutcome
outcome_by (awaits_cryptogram c) n = Err NoOutcome
outcome_by (ended o) n = Ok (record { outcome = o; commands = n })

-- What can be read: the outcome, with the number of commands,
abbrev pub outcome_read : Meaning → Result OutcomeReport Refusal
outcome_read m = cond m.opened (outcome_by m.phase m.count) (Err NotOpen)

-- always the number of the phase,
abbrev pub phase_read : Meaning → ℕ
phase_read m = phase_number (kind_of m.phase)

-- and always the count of commands.
abbrev pub count_read : Meaning → ℕ
count_read m = m.count
