-- The refusals of reading out, among all refusals of a reader.
use Rattle.std.specs.Prelude.{ℕ, Ok, Err, Result}
use Rattle.judge.specs.declared.fault.ObjectFault.TheVariants.{Text}
use Rattle.readout.specs.declared.refusal.ReadoutRefusal.{ReadoutRefusal}
use Rattle.readout.specs.declared.refusal.ReadoutRefusal.TheVariants as readout
use Rattle.run.specs.declared.refusal.Refusal.{Refusal}
use Rattle.run.specs.declared.refusal.Refusal.TheVariants.{Short, BadText, TagNotHeld}

-- the same refusal of a reader
abbrev pub readout_refused : ReadoutRefusal → Refusal
readout_refused readout.Short = Short
readout_refused (readout.Fault f) = BadText (Text f)
readout_refused readout.NotHeld = TagNotHeld

-- an answer with that refusal
abbrev pub handed : Result ℕ ReadoutRefusal → Result ℕ Refusal
handed (Ok n) = Ok n
handed (Err e) = Err (readout_refused e)
