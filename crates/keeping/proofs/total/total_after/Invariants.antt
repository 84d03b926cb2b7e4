use Rattle.std.proofs.Common.{◌≡◌, ◌+◌, ◌*◌, ◌≤◌, drop}
use Rattle.keeping.specs.Keeping.{stored}
use Rattle.keeping.specs.Shares.{parts_of}
use Rattle.keeping.proofs.total.total_after.Given as goal

abbrev pub invariant-loop-entry : goal.invariant-loop-entry
invariant-loop-entry g l =
    (l.total + parts_of l.kind (drop l.entry-index l.table) (stored l.text l.places (g.S.ReadStore.held l.store))
    ≡ parts_of l.kind l.table (stored l.text l.places (g.S.ReadStore.held l.store)))
    × (l.total ≤ 255 * l.entry-index)
