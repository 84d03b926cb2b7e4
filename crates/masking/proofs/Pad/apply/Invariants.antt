use Rattle.std.proofs.Common.{◌≡◌, ◌++◌, take, drop}
use Rattle.masking.specs.Mask.{masked}
use Rattle.masking.proofs.Pad.apply.Given as goal

abbrev pub invariant-loop-i : goal.invariant-loop-i
invariant-loop-i l = l.text ≡ masked l.self.bytes l.tag.value (take l.i l.initial.text) ++ drop l.i l.initial.text
