use Rattle.std.proofs.Common.{length, take}
use Rattle.strip.specs.Strip.{entries}
use Rattle.strip.proofs.Walks.{Walk}
use Rattle.strip.proofs.strip.Strip.find.Given as goal

abbrev pub invariant-loop-head : goal.invariant-loop-head
invariant-loop-head l = Walk (entries l.self.count (take l.self.used l.self.area.now)) l.tag.value l.rest

abbrev pub decreases-loop-head : goal.decreases-loop-head
decreases-loop-head l = length l.rest
