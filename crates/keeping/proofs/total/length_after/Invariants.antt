use Rattle.std.proofs.Common.{◌≡◌, drop}
use Rattle.keeping.specs.Steps.{length_after}
use Rattle.keeping.proofs.total.length_after.Given as goal

abbrev pub invariant-loop-p : goal.invariant-loop-p
invariant-loop-p l = length_after l.text (drop l.p-index l.places) l.tag l.n ≡ length_after l.text l.places l.tag l.held
