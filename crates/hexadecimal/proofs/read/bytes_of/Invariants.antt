use Rattle.std.proofs.Common.{◌≡◌, true, drop, vec_items}
use Rattle.hexadecimal.specs.Digits.{is_half, bytes_from, bytes_of}
use Rattle.hexadecimal.proofs.read.bytes_of.Given as goal

abbrev pub invariant-loop-c : goal.invariant-loop-c
invariant-loop-c l =
    (bytes_from (drop l.c-index l.text) (vec_items l.bytes) l.half ≡ bytes_of l.text)
    × (is_half l.half ≡ true)
