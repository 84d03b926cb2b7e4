use Rattle.std.proofs.Common.{◌≡◌, drop}
use Rattle.store.specs.Steps.{cleared}
use Rattle.store.proofs.dropping.remove_all.Given as goal

abbrev pub invariant-loop-t : goal.invariant-loop-t
invariant-loop-t g l =
    (cleared (drop l.t-index l.tags) (g.S.ReadStore.held l.store) ≡ cleared l.tags (g.S.ReadStore.held l.initial.store))
    × (g.S.ReadStore.objects l.store ≡ g.S.ReadStore.objects l.initial.store)
    × (g.S.ReadStore.bytes l.store ≡ g.S.ReadStore.bytes l.initial.store)
