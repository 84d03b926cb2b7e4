use Rattle.std.proofs.Common.{get_or, sym, ◌∙◌, arith}
use Rattle.std.proofs.lemmas.List.{get_or_default}
use Rattle.directory.specs.declared.slot.Slot.{Slot}
use Rattle.directory.specs.Directory.{slot}
use Rattle.directory.proofs.Slots.{passed_next, next_at, next_more}
use Rattle.directory.proofs.slot.find_slot.Goals as goal

pub returns-then-slot-number : goal.returns-then-slot-number
returns-then-slot-number c =
    let s : Slot = get_or c.args.slots.now c.loop-index.index (slot 0 0) in
    let n = passed_next c.args.slots.now c.args.tag.value c.loop-index.index c.loop-index.start s c.loop-index.invariant c.loop-index-test.true
    (get_or_default c.args.slots.now c.loop-index.index (slot 0 0) s c.loop-index-test.true) in
    next_at c.args.slots.now c.args.tag.value c.loop-index.index c.loop-index.start s n c.loop-index-test.true
    (c.if-slot-number.true ∙ c.number.ensures)

pub overflow_add-start : goal.overflow_add-start
overflow_add-start c =
    let s : Slot = get_or c.args.slots.now c.loop-index.index (slot 0 0) in
    let n = passed_next c.args.slots.now c.args.tag.value c.loop-index.index c.loop-index.start s c.loop-index.invariant c.loop-index-test.true
    (get_or_default c.args.slots.now c.loop-index.index (slot 0 0) s c.loop-index-test.true) in
    omega (arith, n.room, c.requires)

pub loop-index-preserved : goal.loop-index-preserved
loop-index-preserved c =
    let s : Slot = get_or c.args.slots.now c.loop-index.index (slot 0 0) in
    let n = passed_next c.args.slots.now c.args.tag.value c.loop-index.index c.loop-index.start s c.loop-index.invariant c.loop-index-test.true
    (get_or_default c.args.slots.now c.loop-index.index (slot 0 0) s c.loop-index-test.true) in
    next_more c.args.slots.now c.args.tag.value c.loop-index.index c.loop-index.start s n
    (λ e. c.if-slot-number.false (e ∙ sym c.number.ensures))
