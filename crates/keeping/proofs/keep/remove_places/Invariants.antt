use Rattle.std.proofs.Common.{◌≡◌, drop}
use Rattle.keeping.specs.Keeping.{removed}
use Rattle.keeping.proofs.keep.remove_places.Given as goal

abbrev pub invariant-loop-place : goal.invariant-loop-place
invariant-loop-place g l =
    (removed (drop l.place-index l.places) (g.S.ReadStore.held l.store) ≡ removed l.places (g.S.ReadStore.held l.initial.store))
    × (g.S.ReadStore.objects l.store ≡ g.S.ReadStore.objects l.initial.store)
    × (g.S.ReadStore.bytes l.store ≡ g.S.ReadStore.bytes l.initial.store)
