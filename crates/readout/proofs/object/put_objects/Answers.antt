use Rattle.std.proofs.Common.{arith}
use Rattle.readout.proofs.Series.{size_more, onward}
use Rattle.readout.proofs.object.put_objects.Goals as goal

pub put_shown-at-requires : goal.put_shown-at-requires
put_shown-at-requires g c =
    let s = size_more c.loop-tag.tag-index c.args.absent c.args.tags.now (g.S.ReadStore.held c.args.store.now) c.loop-tag-test.true in
    omega (arith, c.loop-tag.invariant.sizes, c.requires, c.loop-tag.auto.out)

pub loop-tag-preserved : goal.loop-tag-preserved
loop-tag-preserved g c =
    onward c.loop-tag.tag-index c.args.absent c.args.tags.now (g.S.ReadStore.held c.args.store.now) c.loop-tag-test.true
    c.loop-tag.at c.put_shown-at.result c.args.out.now c.loop-tag.out c.put_shown-at.new.out c.loop-tag.invariant
    (record { after = c.put_shown-at.ensures.after; front = c.put_shown-at.ensures.front; back = c.put_shown-at.ensures.back })
