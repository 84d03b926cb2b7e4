-- The numbers by which phases, causes, outcomes and refusals are known, once for each, and what each carries.
use Rattle.std.specs.Prelude.{ℕ, List, [], ◌∷◌, Some, None, Option}
use Rattle.tlv.specs.Objects.{fault_number as text_fault_number}
use Rattle.judge.specs.declared.fault.ObjectFault.{ObjectFault}
use Rattle.judge.specs.declared.fault.ObjectFault.TheVariants.{Text, Object}
use Rattle.judge.specs.Faults.{fault_number}
use Rattle.commands.specs.declared.instruction.CommandFault.{CommandFault}
use Rattle.commands.specs.declared.instruction.CommandFault.TheVariants.{ShortBuffer, List as FaultyList, DefaultList}
use Rattle.decision.specs.declared.cryptogram.Cryptogram.{Cryptogram}
use Rattle.decision.specs.declared.cryptogram.Cryptogram.TheVariants.{Aac, Tc, Arqc}
use Rattle.keeping.specs.declared.refusal.TakeRefusal.{TakeRefusal}
use Rattle.keeping.specs.declared.refusal.TakeRefusal.TheVariants.{ListShort, Fault, Share}
use Rattle.keeping.specs.declared.refusal.StoreRefusal.{StoreRefusal}
use Rattle.keeping.specs.declared.refusal.StoreRefusal.TheVariants as store
use Rattle.run.specs.declared.phase.PhaseKind.{PhaseKind}
use Rattle.run.specs.declared.phase.PhaseKind.TheVariants.{Ready, AwaitsOptions, AwaitsRecord, AwaitsCryptogram, Ended}
use Rattle.run.specs.declared.fault.Cause.{Cause}
use Rattle.run.specs.declared.fault.Cause.TheVariants.{Link, Stopped, WrongSize, BadStatus, Faulty, WrongOuter, OverCardShare, Missing, BadFileLocator, BadList, BadCryptogram, BadDefaultList}
use Rattle.run.specs.declared.fault.Marks.{Marks}
use Rattle.run.specs.declared.fault.RunFault.{RunFault}
use Rattle.run.specs.declared.outcome.Outcome.{Outcome}
use Rattle.run.specs.declared.outcome.Outcome.TheVariants.{Approved, Declined, Online, EndApplication}
use Rattle.run.specs.declared.refusal.Refusal.{Refusal}
use Rattle.run.specs.declared.refusal.Refusal.TheVariants.{NotOpen, AlreadyOpen, Short, HoldsObjects, StoreSmall, BadText, OverShare, Begun, Needed, NoCommand, LinkCode, TagNotHeld, NoOutcome, NoDataRecord}
use Rattle.run.specs.declared.refusal.Told.{Told}

-- The phases.
abbrev pub phase_number : PhaseKind → ℕ
phase_number Ready = 0
phase_number AwaitsOptions = 20
phase_number AwaitsRecord = 22
phase_number AwaitsCryptogram = 26
phase_number Ended = 40

-- A refusal as it is told: its number, and the kind, the place and the tag that some carry, zeros in others.
abbrev pub told : ℕ → ℕ → ℕ → ℕ → Told
told n k p t = record { number = n; kind = k; place = p; tag = t }

-- a text fault is told by 5, an object fault by 6, each with its kind and place, and the object's with its tag
abbrev pub fault_told : ObjectFault → Told
fault_told (Text f) = told 5 (text_fault_number f.kind) f.at 0
fault_told (Object k p t) = told 6 (fault_number k) p t

-- The refusals. A reader that is not open, and at opening one that is, are both told by 1.
abbrev pub refusal_told : Refusal → Told
refusal_told NotOpen = told 1 0 0 0
refusal_told AlreadyOpen = told 1 0 0 0
refusal_told Short = told 2 0 0 0
refusal_told HoldsObjects = told 3 0 0 0
refusal_told StoreSmall = told 4 0 0 0
refusal_told (BadText f) = fault_told f
refusal_told OverShare = told 7 0 0 0
refusal_told Begun = told 8 0 0 0
refusal_told (Needed t) = told 9 0 0 t
refusal_told NoCommand = told 10 0 0 0
refusal_told LinkCode = told 11 0 0 0
refusal_told TagNotHeld = told 12 0 0 0
refusal_told NoOutcome = told 13 0 0 0
refusal_told NoDataRecord = told 14 0 0 0

-- how a refusal to take a text is handed on
abbrev pub take_refused : TakeRefusal → Refusal
take_refused ListShort = Short
take_refused (Fault f) = BadText f
take_refused Share = OverShare

-- and that of a store at opening
abbrev pub store_refused : StoreRefusal → Refusal
store_refused store.HoldsObjects = HoldsObjects
store_refused store.TooSmall = StoreSmall

-- What a cause sets: L1, L2, the status that the Error Indication shows, and the tag that was missing; here L1 and L2
-- alone.
abbrev pub marked : ℕ → ℕ → Marks
marked l1 l2 = record { l1 = l1; l2 = l2; sw1 = 0; sw2 = 0; missing = 0 }

-- a text fault sets L2 4, an object fault L2 6
abbrev pub fault_marks : ObjectFault → Marks
fault_marks (Text f) = marked 0 4
fault_marks (Object k p t) = marked 0 6

-- A link fault sets L1 to its code, and a stop nothing; all other causes set L2.
abbrev pub cause_marks : Cause → Marks
cause_marks (Link code) = marked code 0
cause_marks Stopped = marked 0 0
cause_marks WrongSize = marked 0 4
cause_marks (BadStatus a b) = record { l1 = 0; l2 = 3; sw1 = a; sw2 = b; missing = 0 }
cause_marks (Faulty f) = fault_marks f
cause_marks WrongOuter = marked 0 4
cause_marks OverCardShare = marked 0 6
cause_marks (Missing t) = record { l1 = 0; l2 = 1; sw1 = 0; sw2 = 0; missing = t }
cause_marks BadFileLocator = marked 0 6
cause_marks BadList = marked 0 6
cause_marks BadCryptogram = marked 0 6
cause_marks BadDefaultList = marked 0 15

-- The Error Indication: L1, L2, '00', the status, '00'.
abbrev pub indicated : Marks → List ℕ
indicated m = m.l1 ∷ m.l2 ∷ 0 ∷ m.sw1 ∷ m.sw2 ∷ 0 ∷ []

-- of a run that fails by a cause
abbrev pub indication_of : Cause → List ℕ
indication_of c = indicated (cause_marks c)

-- of a run that came to its cryptogram
abbrev pub no_error : List ℕ
no_error = indicated (marked 0 0)

-- the object fault that a cause carries, with the text fault in it
abbrev pub carried_fault : Cause → Option ObjectFault
carried_fault (Link code) = None
carried_fault Stopped = None
carried_fault WrongSize = None
carried_fault (BadStatus a b) = None
carried_fault (Faulty f) = Some f
carried_fault WrongOuter = None
carried_fault OverCardShare = None
carried_fault (Missing t) = None
carried_fault BadFileLocator = None
carried_fault BadList = None
carried_fault BadCryptogram = None
carried_fault BadDefaultList = None

-- the cause that a command which is not built gives: Default CDOL1 is told apart from the card's own lists
abbrev pub list_cause : CommandFault → Cause
list_cause ShortBuffer = BadList
list_cause FaultyList = BadList
list_cause DefaultList = BadDefaultList

-- the cause that a text of the card's which is not taken gives: a work list of fewer than 64 places stops the run
abbrev pub take_cause : TakeRefusal → Cause
take_cause ListShort = Stopped
take_cause (Fault f) = Faulty f
take_cause Share = OverCardShare

-- the outcome of a cryptogram that stands
abbrev pub outcome_of : Cryptogram → Outcome
outcome_of Aac = Declined
outcome_of Tc = Approved
outcome_of Arqc = Online

-- The results.
abbrev pub result_number : Outcome → ℕ
result_number Approved = 1
result_number Declined = 2
result_number Online = 3
result_number (EndApplication f) = 4

-- the run's fault, for result 4 only
abbrev pub outcome_fault : Outcome → Option RunFault
outcome_fault Approved = None
outcome_fault Declined = None
outcome_fault Online = None
outcome_fault (EndApplication f) = Some f
