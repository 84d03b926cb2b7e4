use Rattle.std.proofs.Common.{ap, ◌∙◌, arith}
use Rattle.readout.proofs.Taking.{copied}
use Rattle.readout.proofs.tags.copy_numbers.Goals as goal

pub loop-i-preserved : goal.loop-i-preserved
loop-i-preserved c = copied c.loop-i.i c.number.result c.args.tags.now c.index-tags-i.result c.loop-i.out c.loop-i-test.true (omega arith) c.loop-i.invariant (c.number.ensures ∙ ap (λ t. t.value) c.index-tags-i.is)
