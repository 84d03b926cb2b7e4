use Rattle.std.proofs.Common.{◌≡◌, ◌++◌, take, drop}
use Rattle.store.specs.Steps.{answers_of, map_after}
use Rattle.store.proofs.steps.run_all.Given as goal

abbrev pub invariant-loop-i : goal.invariant-loop-i
invariant-loop-i g l =
    (l.answers ≡ answers_of (g.S.ReadStore.objects l.initial.store) (g.S.ReadStore.bytes l.initial.store) l.text (g.S.ReadStore.held l.initial.store) (take l.i l.steps) ++ drop l.i l.initial.answers)
    × (g.S.ReadStore.held l.store ≡ map_after (g.S.ReadStore.objects l.initial.store) (g.S.ReadStore.bytes l.initial.store) l.text (g.S.ReadStore.held l.initial.store) (take l.i l.steps))
    × (g.S.ReadStore.objects l.store ≡ g.S.ReadStore.objects l.initial.store)
    × (g.S.ReadStore.bytes l.store ≡ g.S.ReadStore.bytes l.initial.store)
