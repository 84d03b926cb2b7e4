use Rattle.std.proofs.Common.{◌≡◌, ◌+◌, ◌-◌, length}
use Rattle.keyed.specs.Elements.{elements, memory}
use Rattle.afl.specs.Afl.{run}
use Rattle.afl.specs.Steps.{gather, run_of}
use Rattle.afl.proofs.locator.add_span.Given as goal

abbrev pub invariant-loop-number : goal.invariant-loop-number
invariant-loop-number l =
    (l.list.items.ghost_name ≡ l.initial.list.items.ghost_name)
    × (length (memory l.list) ≡ length (memory l.initial.list))
    × (gather (length (memory l.initial.list)) (elements l.list) (run l.span.sfi l.number (l.span.last + 1 - l.number)) ≡ gather (length (memory l.initial.list)) (elements l.initial.list) (run_of l.span))
