-- What the answers of the stages mean as a course of the run.
use Rattle.std.specs.Prelude.{ℕ, List, Ok, Err, Result}
use Rattle.std.specs.Borrow.{Bor}
use Rattle.store.specs.Map.{Map}
use Rattle.tlv.specs.declared.text.ReadRefusal.{ReadRefusal}
use Rattle.tlv.specs.declared.text.ReadRefusal.TheVariants as read
use Rattle.judge.specs.declared.fault.ObjectFault.TheVariants.{Text}
use Rattle.run.specs.declared.fault.Cause.{Cause}
use Rattle.run.specs.declared.fault.Cause.TheVariants.{Stopped, Faulty, WrongOuter}
use Rattle.run.specs.State.{Phase}
use Rattle.run.specs.Run.{Course, fails, answer_text}

-- after a card's text: a cause ends the run, and otherwise it goes on with what is held and what the text brought
abbrev pub text_course : Result ℕ Cause → Map → Map → (Map → Map → Course) → Course
text_course (Err c) held brought next = fails c held
text_course (Ok n) held brought next = next held brought

-- the cause that a text which is not one object of the tag gives, by what reading it answers
abbrev pub read_cause : Result ℕ ReadRefusal → Cause
read_cause (Ok n) = WrongOuter
read_cause (Err read.ListShort) = Stopped
read_cause (Err (read.Fault f)) = Faulty (Text f)

-- an answer of the card's: a cause ends the run, and otherwise the phase makes of the text what it does
abbrev pub answer_course : Result (Bor (List ℕ)) Cause → Phase → ℕ → Map → Course
answer_course (Err c) phase share held = fails c held
answer_course (Ok text) phase share held = answer_text phase share held text.now
