use Rattle.std.proofs.Common.{◌≡◌, [], drop}
use Rattle.stages.specs.Brought.{last_value}
use Rattle.stages.proofs.brought.last_value.Given as goal

abbrev pub invariant-loop-p : goal.invariant-loop-p
invariant-loop-p l = last_value l.text (drop l.p-index l.places) l.tag l.value ≡ last_value l.text l.places l.tag []
