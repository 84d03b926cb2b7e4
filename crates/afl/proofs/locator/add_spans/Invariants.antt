use Rattle.std.proofs.Common.{◌≡◌, length}
use Rattle.keyed.specs.Elements.{elements, memory}
use Rattle.afl.specs.Steps.{afl_from}
use Rattle.afl.proofs.locator.add_spans.Given as goal

abbrev pub invariant-loop-rest : goal.invariant-loop-rest
invariant-loop-rest l =
    (l.list.items.ghost_name ≡ l.initial.list.items.ghost_name)
    × (length (memory l.list) ≡ length (memory l.initial.list))
    × (afl_from (length (memory l.initial.list)) (elements l.list) l.rest ≡ afl_from (length (memory l.initial.list)) (elements l.initial.list) l.afl)

abbrev pub decreases-loop-rest : goal.decreases-loop-rest
decreases-loop-rest l = length l.rest
