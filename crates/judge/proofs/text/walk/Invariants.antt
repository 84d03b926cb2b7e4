use Rattle.std.proofs.Common.{◌≡◌, [], take, drop}
use Rattle.judge.specs.Walk.{walked}
use Rattle.judge.proofs.text.walk.Given as goal

abbrev pub invariant-loop-i : goal.invariant-loop-i
invariant-loop-i g l =
    walked l.kind (g.S.ReadStore.held l.store) l.text l.constructed (take l.i l.places) (drop l.i l.places)
    ≡ walked l.kind (g.S.ReadStore.held l.store) l.text l.constructed [] l.places
