use Rattle.std.proofs.Common.{sym, ap, ◌∙◌}
use Rattle.std.proofs.lemmas.List.{at_drop_all}
use Rattle.stages.specs.Brought.{last_value}
use Rattle.stages.proofs.Bringing.{value_here, value_other, known_brought, unknown_brought}
use Rattle.stages.proofs.brought.last_value.Goals as goal
use Rattle.stages.proofs.brought.last_value.Goals.{then-p-tag, else-p-tag}

pub loop-p-preserved : goal.loop-p-preserved
loop-p-preserved c =
    elim c.if-p-tag.branch [
      | then-p-tag w ↦ value_here c.args.text.now c.args.places.now c.loop-p.p-index _ c.loop-p-test.true c.args.tag c.loop-p.value.now c.if-p-tag.value.now w.if-p-tag.true (ap (λ x. x.now) w.value-is ∙ c.value_in-here.ensures) ∙ c.loop-p.invariant
      | else-p-tag w ↦ value_other c.args.text.now c.args.places.now c.loop-p.p-index _ c.loop-p-test.true c.args.tag c.loop-p.value.now c.if-p-tag.value.now w.if-p-tag.false (ap (λ x. x.now) w.value-is) ∙ c.loop-p.invariant
    ]

pub returns : goal.returns
returns c =
    let last = sym (at_drop_all (λ qs. last_value c.args.text.now qs c.args.tag c.loop-p.value.now) c.args.places.now c.loop-p.p-index c.loop-p-test.false) ∙ c.loop-p.invariant in
    record {
      known = λ e k. last ∙ known_brought c.args.text.now c.args.places.now c.args.tag e k;
      unknown = unknown_brought c.args.text.now c.args.places.now c.args.tag;
    }
