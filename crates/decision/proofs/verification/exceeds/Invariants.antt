use Rattle.std.proofs.Common.{pos, length, ◌+ℤ◌, ◌≤ℤ◌}
use Rattle.decision.specs.Amounts.{padded}
use Rattle.decision.proofs.Order.{Level}
use Rattle.decision.proofs.verification.exceeds.Given as goal

abbrev pub invariant-loop-a : goal.invariant-loop-a
invariant-loop-a l =
    Level (padded l.n l.amount) (padded l.n l.floor) (length l.yielded) l.lead
    × (pos 0 ≤ℤ (l.lead +ℤ pos 1))
    × (l.lead ≤ℤ pos 1)
    × (goal.iterator-loop-a).can_next l.a-iterator
    × (goal.iterator-loop-a).is_finite l.a-iterator
