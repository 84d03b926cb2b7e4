-- What reading out of a reader answers, and what the buffer holds after.
use Rattle.std.specs.Prelude.{◌≡◌, ℕ, cond, List, take, IfOk, Some, Ok, Err, Result}
use Rattle.store.specs.Map.{Map}
use Rattle.tlv.specs.Written.{at_front}
use Rattle.readout.specs.Shown.{Object, bytes_of, objects_in}
use Rattle.readout.specs.Output.{held_objects, record_objects, fit_answer, held_answer}
use Rattle.readout.specs.Wanted.{wanted_answer}
use Rattle.run.specs.declared.outcome.Outcome.{Outcome}
use Rattle.run.specs.declared.outcome.Outcome.TheVariants.{Approved, Declined, Online, EndApplication}
use Rattle.run.specs.declared.outcome.OutcomeReport.{OutcomeReport}
use Rattle.run.specs.declared.refusal.Refusal.{Refusal}
use Rattle.run.specs.declared.refusal.Refusal.TheVariants.{NotOpen, NoDataRecord}
use Rattle.run.specs.State.{Meaning}
use Rattle.run.specs.Calls.{outcome_read}
use Rattle.host.specs.Refused.{handed}

-- The wanted objects of a map, with a work list of so many tags and a buffer of n bytes. It is checked in this order: the
-- work list, the list of wanted tags, the buffer.
abbrev pub wanted_in : Map → ℕ → ℕ → Result ℕ Refusal
wanted_in held list n = handed (wanted_answer list held n)

-- One object of a map: that it is held, the buffer.
abbrev pub object_in : Map → ℕ → ℕ → Result ℕ Refusal
object_in held t n = handed (held_answer (held_objects t held) n)

-- The Data Record of a map: the buffer.
abbrev pub record_in : Map → ℕ → Result ℕ Refusal
record_in held n = handed (fit_answer (bytes_of (record_objects held)) n)

-- the reader must be open
abbrev pub if_open : Meaning → Result ℕ Refusal → Result ℕ Refusal
if_open m r = cond m.opened r (Err NotOpen)

-- an application that was ended has no Data Record
abbrev pub by_outcome : Outcome → Result ℕ Refusal → Result ℕ Refusal
by_outcome Approved r = r
by_outcome Declined r = r
by_outcome Online r = r
by_outcome (EndApplication f) r = Err NoDataRecord

-- there must be an outcome
abbrev pub on_outcome : Result OutcomeReport Refusal → Result ℕ Refusal → Result ℕ Refusal
on_outcome (Ok report) r = by_outcome report.outcome r
on_outcome (Err e) r = Err e

-- What the wanted objects answer.
abbrev pub wanted_reply : Meaning → ℕ → ℕ → Result ℕ Refusal
wanted_reply m list n = if_open m (wanted_in m.held list n)

-- What one object answers.
abbrev pub object_reply : Meaning → ℕ → ℕ → Result ℕ Refusal
object_reply m t n = if_open m (object_in m.held t n)

-- What the Data Record answers: that the reader is open, that there is an outcome, that its result is 1 to 3, the buffer.
abbrev pub record_reply : Meaning → ℕ → Result ℕ Refusal
record_reply m n = on_outcome (outcome_read m) (record_in m.held n)

-- The buffer after an answer: the objects' bytes at its front and the rest unchanged; after a refusal all unchanged.
abbrev pub left_by : Result ℕ Refusal → List Object → List ℕ → List ℕ
left_by (Ok n) xs out = at_front (bytes_of xs) out
left_by (Err e) xs out = out

-- Reading what was written gives exactly these objects, in this order. It is the law of all three, each with its objects
-- of the map.
abbrev pub ReadsBack : Result ℕ Refusal → List ℕ → List Object → Type 0
ReadsBack r out xs = IfOk r (λ n. objects_in (take n out) ≡ Some xs)
