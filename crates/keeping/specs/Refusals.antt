-- How a refusal of the judgement is handed on.
use Rattle.judge.specs.declared.fault.JudgeRefusal.{JudgeRefusal}
use Rattle.judge.specs.declared.fault.JudgeRefusal.TheVariants as judge
use Rattle.keeping.specs.declared.refusal.TakeRefusal.{TakeRefusal}
use Rattle.keeping.specs.declared.refusal.TakeRefusal.TheVariants.{ListShort, Fault}

-- a short work list stays one, and an object fault is carried whole
abbrev pub refused_as : JudgeRefusal → TakeRefusal
refused_as judge.ListShort = ListShort
refused_as (judge.Fault f) = Fault f
