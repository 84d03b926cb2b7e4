use Rattle.std.proofs.Common.{◌≡◌, ◌^◌, ◌<◌, drop}
use Rattle.lines.specs.Numbers.{read_on}
use Rattle.lines.proofs.numbers.read_digits.Given as goal

abbrev pub invariant-loop-d : goal.invariant-loop-d
invariant-loop-d l = (read_on l.n (drop l.d-index l.digits) ≡ read_on 0 l.digits) × (l.n < 10 ^ l.d-index)
