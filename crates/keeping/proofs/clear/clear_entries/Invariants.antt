use Rattle.std.proofs.Common.{◌≡◌, drop}
use Rattle.keeping.specs.Steps.{cleared_all}
use Rattle.keeping.proofs.clear.clear_entries.Given as goal

abbrev pub invariant-loop-entry : goal.invariant-loop-entry
invariant-loop-entry g l =
    (cleared_all (drop l.entry-index l.entries) (g.S.ReadStore.held l.store) ≡ cleared_all l.entries (g.S.ReadStore.held l.initial.store))
    × (g.S.ReadStore.objects l.store ≡ g.S.ReadStore.objects l.initial.store)
    × (g.S.ReadStore.bytes l.store ≡ g.S.ReadStore.bytes l.initial.store)
