use Rattle.std.proofs.Common.{length, ap, ◌∙◌, arith, ltb-false}
use Rattle.keyed.specs.Elements.{elements, memory}
use Rattle.afl.specs.Steps.{gather, run_of}
use Rattle.afl.proofs.Gathering.{span_goes_on}
use Rattle.afl.proofs.locator.add_spans.Goals as goal

pub loop-rest-preserved : goal.loop-rest-preserved
loop-rest-preserved c =
    let inv = c.loop-rest.invariant in
    let held = elements c.loop-rest.list in
    let span = c.in_ok-span_of.field-0 in (
      c.add_span.ensures.named ∙ inv.0,
      c.add_span.ensures.room ∙ inv.1,
      span_goes_on (length (memory c.args.list.now)) held c.loop-rest.rest.now (omega (arith, ltb-false)) span (elements c.add_span.new.list) c.in_ok-span_of.ensures
          (c.in_ok-add_span.ensures.added ∙ ap (λ k. gather k held (run_of span)) inv.1)
          ∙ inv.2,
    )
