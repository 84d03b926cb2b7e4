use Rattle.std.proofs.Common.{◌≡◌, ◌≤◌, length}
use Rattle.dol.specs.Dol.{entries, size_of}
use Rattle.dol.proofs.Entries.{after}
use Rattle.dol.proofs.size.dol_size.Given as goal

abbrev pub invariant-loop-rest : goal.invariant-loop-rest
invariant-loop-rest l = (after l.size l.limit (entries l.rest) ≡ size_of l.limit (entries l.dol)) × (l.size ≤ l.limit)

abbrev pub decreases-loop-rest : goal.decreases-loop-rest
decreases-loop-rest l = length l.rest
