use Rattle.directory.proofs.Slots.{Passed}
use Rattle.directory.proofs.slot.find_slot.Given as goal

abbrev pub invariant-loop-index : goal.invariant-loop-index
invariant-loop-index l = Passed l.slots l.tag.value l.index l.start
