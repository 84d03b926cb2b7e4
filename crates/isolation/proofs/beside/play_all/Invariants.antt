use Rattle.std.proofs.Common.{◌≡◌, [], length, take, drop}
use Rattle.run.specs.Calls.{Config}
use Rattle.reader.specs.Meanings.{meaning}
use Rattle.isolation.specs.Asked.{asks, latest}
use Rattle.isolation.specs.Beside.{Went}
use Rattle.isolation.proofs.beside.play_all.Given as goal

abbrev pub invariant-loop-i : goal.invariant-loop-i
invariant-loop-i g l =
    ((config : Config) → Went config [] [] (meaning g.S.ReadStore l.initial.reader) → Went config (latest (asks (length l.initial.buffer) (length l.initial.list)) (take l.i l.calls) []) (latest (λ r. r) (take l.i l.replies) []) (meaning g.S.ReadStore l.reader))
    × (drop l.i l.replies ≡ drop l.i l.initial.replies)
