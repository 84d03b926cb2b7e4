use Rattle.std.proofs.Common.{◌≡◌, take}
use Rattle.readout.specs.Listing.{numbers}
use Rattle.readout.proofs.tags.copy_numbers.Given as goal

abbrev pub invariant-loop-i : goal.invariant-loop-i
invariant-loop-i l = take l.i l.out ≡ numbers (take l.i l.tags)
