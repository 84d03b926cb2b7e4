-- A store that holds nothing and has no room.
use Rattle.std.specs.Prelude.{refl}
use Rattle.std.proofs.Common.{arith}
use Rattle.store.specs.Map.{Kept, empty}
use Rattle.store.specs.Maps.{count_empty, total_empty}

-- it keeps what every store keeps
pub kept_empty : Kept empty 0 0
kept_empty = record { tags = λ k h. refl; values = λ k. tt; few = omega (arith, count_empty); small = omega (arith, total_empty) }
