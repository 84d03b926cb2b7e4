-- The lines that answer.
use Rattle.std.specs.Prelude.{ℕ, Bool, cond, List, [], ◌∷◌, ◌++◌, take, Some, None, Ok, Err, codes, decimal, Option, Result}
use Rattle.hexadecimal.specs.Digits.{written}
use Rattle.keyed.specs.declared.record.Record.{Record}
use Rattle.store.specs.declared.reading.NotCopied.{NotCopied}
use Rattle.store.specs.declared.reading.NotCopied.TheVariants.{Missing, Short}
use Rattle.store.specs.declared.writing.Refused.TheVariants.{TooLong, NoRoom}
use Rattle.tlv.specs.Objects.{fault_number as text_fault_number}
use Rattle.judge.specs.declared.fault.ObjectFault.{ObjectFault}
use Rattle.judge.specs.declared.fault.ObjectFault.TheVariants.{Text, Object}
use Rattle.judge.specs.Faults.{fault_number}
use Rattle.run.specs.declared.fault.Marks.{Marks}
use Rattle.run.specs.declared.fault.RunFault.{RunFault}
use Rattle.run.specs.declared.outcome.OutcomeReport.{OutcomeReport}
use Rattle.run.specs.declared.refusal.Refusal.{Refusal}
use Rattle.run.specs.declared.refusal.Told.{Told}
use Rattle.run.specs.Numbers.{phase_number, refusal_told, cause_marks, carried_fault, result_number, outcome_fault}
use Rattle.reader.specs.declared.reader.Step.{Step}
use Rattle.reader.specs.declared.reader.Step.TheVariants.{Taken, Command, Ended}
use Rattle.reader.specs.declared.reader.closed.PutRefusal.{PutRefusal}
use Rattle.reader.specs.declared.reader.closed.PutRefusal.TheVariants.{Open, Store}
use Rattle.lines.specs.Words.{tag_word}

-- why a put is refused
abbrev pub put_word : PutRefusal → List ℕ
put_word Open = codes "open"
put_word (Store TooLong) = codes "long"
put_word (Store NoRoom) = codes "room"

-- a put
abbrev pub put_line : Result (Unit {0}) PutRefusal → List ℕ
put_line (Ok u) = codes "put taken"
put_line (Err e) = codes "put refused " ++ put_word e

-- whether a tag was held
abbrev pub held_word : Bool → List ℕ
held_word b = cond b (codes "held") (codes "absent")

-- a drop
abbrev pub drop_line : Result Bool Refusal → List ℕ
drop_line (Ok b) = codes "drop " ++ held_word b
drop_line (Err e) = codes "drop refused open"

-- the length of a value
abbrev pub length_line : Option ℕ → List ℕ
length_line None = codes "length none"
length_line (Some n) = codes "length " ++ decimal n

-- what copying answers
abbrev pub copy_word : Result ℕ NotCopied → List ℕ
copy_word (Err Missing) = codes "none"
copy_word (Err Short) = codes "short"
copy_word (Ok n) = codes "taken"

-- a refusal, by its numbers
abbrev pub told_words : Told → List ℕ
told_words t =
    codes " refused " ++ (decimal t.number ++ (codes " kind " ++ (decimal t.kind ++ (codes " place " ++ (decimal t.place ++ (codes " tag " ++ tag_word t.tag))))))

abbrev pub refusal_line : List ℕ → Refusal → List ℕ
refusal_line name e = name ++ told_words (refusal_told e)

-- what a call of a sale answers; a command is the front of the buffer
abbrev pub step_line : List ℕ → Result Step Refusal → List ℕ → List ℕ
step_line name (Ok Taken) buffer = name ++ codes " taken"
step_line name (Ok Ended) buffer = name ++ codes " ended"
step_line name (Ok (Command n)) buffer = name ++ (codes " command " ++ written (take n buffer))
step_line name (Err e) buffer = refusal_line name e

-- what reading out answers: the front of the buffer
abbrev pub read_line : List ℕ → Result ℕ Refusal → List ℕ → List ℕ
read_line name (Ok n) buffer = name ++ (codes " " ++ written (take n buffer))
read_line name (Err e) buffer = refusal_line name e

-- the text fault or the object fault that a run's fault carries
abbrev pub carried_words : Option ObjectFault → List ℕ
carried_words None = []
carried_words (Some (Text f)) = codes " text " ++ (decimal (text_fault_number f.kind) ++ (codes " place " ++ decimal f.at))
carried_words (Some (Object k p t)) = codes " object " ++ (decimal (fault_number k) ++ (codes " place " ++ (decimal p ++ (codes " tag " ++ tag_word t))))

-- the marks of a cause: L1, L2, the phase and the record, and the tag that was missing
abbrev pub mark_words : RunFault → Marks → List ℕ
mark_words f m =
    codes " l1 " ++ (decimal m.l1 ++ (codes " l2 " ++ (decimal m.l2 ++ (codes " phase " ++ (decimal (phase_number f.phase) ++ (codes " record "
    ++ (decimal f.awaited.sfi ++ (codes " " ++ (decimal f.awaited.number ++ (codes " missing " ++ tag_word m.missing))))))))))

-- the run's fault, of a run that has one
abbrev pub fault_words : Option RunFault → List ℕ
fault_words None = []
fault_words (Some f) = mark_words f (cause_marks f.cause) ++ carried_words (carried_fault f.cause)

abbrev pub outcome_line : Result OutcomeReport Refusal → List ℕ
outcome_line (Ok o) = codes "outcome result " ++ (decimal (result_number o.outcome) ++ (codes " commands " ++ (decimal o.commands ++ fault_words (outcome_fault o.outcome))))
outcome_line (Err e) = refusal_line (codes "outcome") e

-- a record, and records one after the other
abbrev pub record_word : Record → List ℕ
record_word x = codes " " ++ (decimal x.sfi ++ (codes "." ++ decimal x.number))

abbrev pub record_words : List Record → List ℕ
record_words [] = []
record_words (x ∷ xs) = record_word x ++ record_words xs
