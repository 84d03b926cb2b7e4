use Rattle.std.proofs.Common.{◌≡◌, length}
use Rattle.judge.specs.Objects.{outermost}
use Rattle.judge.specs.Walk.{first_built}
use Rattle.judge.proofs.text.first_constructed.Given as goal

abbrev pub invariant-loop-token : goal.invariant-loop-token
invariant-loop-token l = first_built (outermost (length l.text) l.rest) ≡ first_built (outermost (length l.text) l.text)

abbrev pub decreases-loop-token : goal.decreases-loop-token
decreases-loop-token l = length l.rest
