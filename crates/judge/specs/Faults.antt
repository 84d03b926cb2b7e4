-- The numbers of the object faults, and how a refusal to read is handed on.
use Rattle.std.specs.Prelude.{ℕ}
use Rattle.tlv.specs.declared.text.ReadRefusal.{ReadRefusal}
use Rattle.tlv.specs.declared.text.ReadRefusal.TheVariants as read
use Rattle.judge.specs.declared.fault.ObjectFaultKind.{ObjectFaultKind}
use Rattle.judge.specs.declared.fault.ObjectFaultKind.TheVariants.{UnknownTag, OtherWriter, BadLength, BadDigits, TagTwice, HeldWithValue, AfterBegin}
use Rattle.judge.specs.declared.fault.ObjectFault.TheVariants.{Text}
use Rattle.judge.specs.declared.fault.JudgeRefusal.{JudgeRefusal}
use Rattle.judge.specs.declared.fault.JudgeRefusal.TheVariants.{ListShort, Fault}

-- the number of each fault
abbrev pub fault_number : ObjectFaultKind → ℕ
fault_number UnknownTag = 1
fault_number OtherWriter = 2
fault_number BadLength = 3
fault_number BadDigits = 4
fault_number TagTwice = 5
fault_number HeldWithValue = 6
fault_number AfterBegin = 7

-- a short work list stays one, and a text fault is carried whole
abbrev pub refused_as : ReadRefusal → JudgeRefusal
refused_as read.ListShort = ListShort
refused_as (read.Fault f) = Fault (Text f)
