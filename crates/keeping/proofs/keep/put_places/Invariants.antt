use Rattle.std.proofs.Common.{◌≡◌, drop}
use Rattle.keeping.specs.Keeping.{stored}
use Rattle.keeping.specs.Steps.{Fresh, Puttable}
use Rattle.keeping.proofs.keep.put_places.Given as goal

abbrev pub invariant-loop-place : goal.invariant-loop-place
invariant-loop-place g l =
    (Puttable (g.S.ReadStore.objects l.initial.store) (g.S.ReadStore.bytes l.initial.store) l.text l.places (g.S.ReadStore.held l.initial.store)
    → (stored l.text (drop l.place-index l.places) (g.S.ReadStore.held l.store) ≡ stored l.text l.places (g.S.ReadStore.held l.initial.store))
    × Fresh l.text (drop l.place-index l.places) (g.S.ReadStore.held l.store))
    × (g.S.ReadStore.objects l.store ≡ g.S.ReadStore.objects l.initial.store)
    × (g.S.ReadStore.bytes l.store ≡ g.S.ReadStore.bytes l.initial.store)
