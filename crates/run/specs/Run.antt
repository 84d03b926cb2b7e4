-- The run: what the card's bytes lead to, step by step.
use Rattle.std.specs.Prelude.{ℕ, ◌-◌, Bool, true, false, cond, not, ◌&&◌, ◌||◌, List, [], ◌∷◌, length, take, drop, Some, None, Ok, Err, Option, Result, ◌==◌, nat_lt, slice_index}
use Rattle.std.specs.List.{find}
use Rattle.keyed.specs.declared.record.Record.{Record}
use Rattle.tlv.specs.Objects.{end, primitive, constructed, Next, fault, seen, next_at}
use Rattle.tlv.specs.Series.{Reading, wrong, found, meaning}
use Rattle.store.specs.Map.{Map, empty, changed}
use Rattle.judge.specs.declared.fault.ObjectFault.{ObjectFault}
use Rattle.judge.specs.declared.fault.ObjectFault.TheVariants.{Text}
use Rattle.judge.specs.declared.kind.TextKind.TheVariants.{CardAnswer}
use Rattle.judge.specs.Rules.{has_value}
use Rattle.judge.specs.Judge.{judged}
use Rattle.keeping.specs.Keeping.{stored_text}
use Rattle.keeping.specs.Shares.{writer_total}
use Rattle.keeping.specs.Room.{verification_results}
use Rattle.decision.specs.declared.cryptogram.Cryptogram.{Cryptogram}
use Rattle.decision.specs.declared.cryptogram.WrongCryptogram.{WrongCryptogram}
use Rattle.decision.specs.Decision.{results, decided}
use Rattle.decision.specs.Cryptograms as cryptograms
use Rattle.afl.specs.Afl.{records_of}
use Rattle.commands.specs.declared.instruction.CommandFault.{CommandFault}
use Rattle.commands.specs.Commands.{bytes, options_command, generate_command, read_record}
use Rattle.run.specs.declared.fault.Cause.{Cause}
use Rattle.run.specs.declared.fault.Cause.TheVariants.{Stopped, WrongSize, BadStatus, Faulty, WrongOuter, OverCardShare, Missing, BadFileLocator, BadCryptogram}
use Rattle.run.specs.declared.outcome.Outcome.{Outcome}
use Rattle.run.specs.Numbers.{list_cause, outcome_of}
use Rattle.run.specs.State.{Phase, ready, awaits_options, awaits_record, awaits_cryptogram, ended}

-- Where a call takes the run, and what the store holds then: a command is handed out and a phase awaits its answer, the
-- run fails by a cause, or it comes to its outcome.
pub data Course : Type 0 where
  hands_out : List ℕ → Phase → Map → Course
  fails : Cause → Map → Course
  comes_to : Outcome → Map → Course

-- It fails by the cause, if there is one, and otherwise goes on.
abbrev pub unless : Option Cause → Map → Course → Course
unless (Some c) held next = fails c held
unless None held next = next

-- a cause where the test holds
abbrev pub cause_if : Bool → Cause → Option Cause
cause_if b c = cond b (Some c) None

-- the first of these tags that has no value
abbrev pub first_missing : List ℕ → Map → Option ℕ
first_missing ts m = find (λ t. not (has_value (m t))) ts

-- a tag without a value is a cause
abbrev pub missing : Option ℕ → Option Cause
missing None = None
missing (Some t) = Some (Missing t)

-- nothing but filler is left
abbrev pub ends : Next → Bool
ends (fault k at) = false
ends (seen end rest) = true
ends (seen (primitive t at start v) rest) = false
ends (seen (constructed t at start v) rest) = false

-- what stands next is a constructed object of this tag, and nothing but filler comes after it
abbrev pub is_outer : ℕ → Next → Bool
is_outer tag (fault k at) = false
is_outer tag (seen end rest) = false
is_outer tag (seen (primitive t at start v) rest) = false
is_outer tag (seen (constructed t at start v) rest) = t == tag && ends (next_at (length rest) rest)

-- The text is one object of this tag, with nothing else but filler.
unfoldable pub one_object : ℕ → List ℕ → Bool
one_object tag text = is_outer tag (next_at (length text) text)

-- what is wrong with a text that is not: its text fault, if it has one, and else its outer object
abbrev pub outer_cause : Reading → Cause
outer_cause (wrong kind at) = Faulty (Text (record { kind = kind; at = at }))
outer_cause (found ps) = WrongOuter

-- A text of the card's that is one object of the outer tag: the fault of the text or of an object, the share; else it is
-- stored, and the run goes on with what is held then and with what the text brought by itself.
abbrev pub judged_text : ℕ → Map → List ℕ → (Map → Map → Course) → Result (Unit {0}) ObjectFault → Course
judged_text share held text next (Err f) = fails (Faulty f) held
judged_text share held text next (Ok x) =
    cond (nat_lt share (writer_total CardAnswer (stored_text text held))) (fails OverCardShare held)
    (next (stored_text text held) (stored_text text empty))

-- A text of the card's, which must be one object of the outer tag.
unfoldable pub card_text : ℕ → ℕ → Map → List ℕ → (Map → Map → Course) → Course
card_text outer share held text next =
    cond (one_object outer text) (judged_text share held text next (judged CardAnswer held text))
    (fails (outer_cause (meaning text)) held)

-- the command is handed out, or the PDOL is faulty
abbrev pub options_with : Map → Result (List ℕ) CommandFault → Course
options_with held (Err e) = fails (list_cause e) held
options_with held (Ok command) = hands_out command awaits_options held

-- After the FCI: GET PROCESSING OPTIONS.
unfoldable pub after_fci : Map → Map → Course
after_fci held brought = options_with held (options_command held)

-- the most bytes of an FCI
abbrev pub longest_fci : ℕ
longest_fci = 256

-- Begin: the FCI's size, and then its text, one object 6F.
unfoldable pub begins : ℕ → Map → List ℕ → Course
begins share held fci = unless (cause_if (nat_lt longest_fci (length fci)) WrongSize) held (card_text 0x6F share held fci after_fci)

-- the first of the records is read, the others wait; an AFL that breaks a rule, or names none, is faulty
abbrev pub first_record : Map → Option (List Record) → Course
first_record held None = fails BadFileLocator held
first_record held (Some []) = fails BadFileLocator held
first_record held (Some (r ∷ rs)) = hands_out (read_record r) (awaits_record r rs) held

-- After the GPO answer, which must itself bring values of 82 and 94: the first record of the AFL.
unfoldable pub after_options : Map → Map → Course
after_options held brought =
    unless (missing (first_missing (0x82 ∷ 0x94 ∷ []) brought)) held
    (first_record held (records_of (bytes (brought 0x94))))

-- the TVR is put
abbrev pub verified : Map → Map
verified held = changed held verification_results (Some (results (bytes (held 0x9F02)) (bytes (held 0xDF_8123))))

-- what it decides, with TAC Denial, TAC Online and Terminal Type
abbrev pub decision : Map → Cryptogram
decision held = decided (bytes (held verification_results)) (bytes (held 0xDF_8121)) (bytes (held 0xDF_8122)) (slice_index (bytes (held 0x9F35)) 0)

-- the command is handed out, or CDOL1 or Default CDOL1 is faulty
abbrev pub generates : Cryptogram → Map → Result (List ℕ) CommandFault → Course
generates requested held (Err e) = fails (list_cause e) held
generates requested held (Ok command) = hands_out command (awaits_cryptogram requested) held

-- GENERATE AC asks for what is decided
abbrev pub decides : Map → Course
decides held = generates (decision held) held (generate_command (decision held) held)

-- After a record's answer: the next record, or after the last one, where 5A and 5F24 have values, the decision.
unfoldable pub after_record : List Record → Map → Map → Course
after_record (r ∷ rs) held brought = hands_out (read_record r) (awaits_record r rs) held
after_record [] held brought = unless (missing (first_missing (0x5A ∷ 0x5F24 ∷ []) held)) held (decides (verified held))

-- the cryptogram stands, or not
abbrev pub gives : Map → Result Cryptogram WrongCryptogram → Course
gives held (Err e) = fails BadCryptogram held
gives held (Ok given) = comes_to (outcome_of given) held

-- After the GENERATE AC answer, which must itself bring values of 9F27, 9F36 and 9F26: the cryptogram that 9F27 names.
unfoldable pub after_cryptogram : Cryptogram → Map → Map → Course
after_cryptogram requested held brought =
    unless (missing (first_missing (0x9F27 ∷ 0x9F36 ∷ 0x9F26 ∷ []) brought)) held
    (gives held (cryptograms.answered requested (slice_index (bytes (brought 0x9F27)) 0)))

-- an answer's text: all but its last two bytes
abbrev pub text_of : List ℕ → List ℕ
text_of answer = take (length answer - 2) answer

-- the first and the second of these two, the status
abbrev pub status_at : List ℕ → ℕ → ℕ
status_at answer i = slice_index (drop (length answer - 2) answer) i

-- the most bytes of an answer
abbrev pub longest_answer : ℕ
longest_answer = 258

-- An answer has 2 to 258 bytes.
abbrev pub wrong_size : List ℕ → Option Cause
wrong_size answer = cause_if (nat_lt (length answer) 2 || nat_lt longest_answer (length answer)) WrongSize

-- Its status is 9000.
abbrev pub bad_status : List ℕ → Option Cause
bad_status answer = cause_if (not (status_at answer 0 == 0x90 && status_at answer 1 == 0)) (BadStatus (status_at answer 0) (status_at answer 1))

-- What the phase makes of the text. No answer is taken where none is awaited.
abbrev pub answer_text : Phase → ℕ → Map → List ℕ → Course
answer_text ready share held text = fails Stopped held
answer_text awaits_options share held text = card_text 0x77 share held text after_options
answer_text (awaits_record r rs) share held text = card_text 0x70 share held text (after_record rs)
answer_text (awaits_cryptogram c) share held text = card_text 0x77 share held text (after_cryptogram c)
answer_text (ended o) share held text = fails Stopped held

-- An answer: its size, its status, its text.
unfoldable pub answered : Phase → ℕ → Map → List ℕ → Course
answered phase share held answer =
    unless (wrong_size answer) held
    (unless (bad_status answer) held
    (answer_text phase share held (text_of answer)))
