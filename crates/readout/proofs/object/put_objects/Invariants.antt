use Rattle.readout.proofs.Series.{Onward}
use Rattle.readout.proofs.object.put_objects.Given as goal

abbrev pub invariant-loop-tag : goal.invariant-loop-tag
invariant-loop-tag g l = Onward l.at l.tag-index l.absent l.tags (g.S.ReadStore.held l.store) l.initial.out l.out
