use Rattle.std.proofs.Common.{◌≡◌, ◌+◌, ◌-◌, ◌*◌, ◌≤◌, length}
use Rattle.tlv.specs.Series.{series}
use Rattle.tlv.specs.Told.{meant}
use Rattle.tlv.proofs.Steps.{inside_length}
use Rattle.keyed.specs.Elements.{elements, memory}
use Rattle.tlv.specs.Rising.{Before}
use Rattle.tlv.proofs.text.reader.+read_object_read_series.Given as goal

abbrev pub decreases-read_object : goal.decreases-read_object
decreases-read_object l = 2 * inside_length (meant l.token) + 2

abbrev pub decreases-read_series : goal.decreases-read_series
decreases-read_series l = 2 * length l.text.now + 1

abbrev pub invariant-read_series-loop-token : goal.invariant-read_series-loop-token
invariant-read_series-loop-token l =
    (length l.rest ≤ length l.text)
    × (length (memory l.list) ≡ 64)
    × Before (l.end - length l.rest) (elements l.list)
    × (l.list.items.ghost_name ≡ l.initial.list.items.ghost_name)
    × (series l.depth l.end l.rest (elements l.list) ≡ series l.depth l.end l.text (elements l.initial.list))

abbrev pub decreases-read_series-loop-token : goal.decreases-read_series-loop-token
decreases-read_series-loop-token l = length l.rest
