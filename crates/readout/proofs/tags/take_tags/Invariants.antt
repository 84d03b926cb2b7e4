use Rattle.std.proofs.Common.{◌≡◌, length}
use Rattle.keyed.specs.Elements.{elements, memory}
use Rattle.readout.specs.Shown.{AllTags}
use Rattle.readout.specs.Listing.{numbers, goes_on}
use Rattle.readout.proofs.tags.take_tags.Given as goal

abbrev pub invariant-loop-after : goal.invariant-loop-after
invariant-loop-after l =
    (l.list.items.ghost_name ≡ l.initial.list.items.ghost_name)
    × (length (memory l.list) ≡ length (memory l.initial.list))
    × (goes_on (length l.text) (numbers (elements l.list)) l.rest ≡ goes_on (length l.text) (numbers (elements l.initial.list)) l.text)
    × (AllTags (numbers (elements l.initial.list)) → AllTags (numbers (elements l.list)))

abbrev pub decreases-loop-after : goal.decreases-loop-after
decreases-loop-after l = length l.rest
