use Rattle.std.proofs.Common.{◌≡◌, ◌++◌, drop, vec_items}
use Rattle.hexadecimal.specs.Digits.{shown}
use Rattle.hexadecimal.proofs.write.push_bytes.Given as goal

abbrev pub invariant-loop-b : goal.invariant-loop-b
invariant-loop-b l = vec_items l.out ++ shown (drop l.b-index l.bytes) ≡ vec_items l.initial.out ++ shown l.bytes
