use Rattle.std.proofs.Common.{◌≡◌, length}
use Rattle.dol.specs.Dol.{entries}
use Rattle.dol.specs.Steps.{Room}
use Rattle.dol.proofs.Fills.{onward, written}
use Rattle.dol.proofs.fill.fill_entries.Given as goal

abbrev pub invariant-loop-head : goal.invariant-loop-head
invariant-loop-head g l =
    (onward (g.S.ReadStore.held l.store) l.at (entries l.rest) l.out ≡ written (g.S.ReadStore.held l.store) (entries l.dol) l.initial.out)
    × Room l.at (entries l.rest) (length l.initial.out)

abbrev pub decreases-loop-head : goal.decreases-loop-head
decreases-loop-head g l = length l.rest
