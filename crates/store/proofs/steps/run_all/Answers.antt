use Rattle.std.proofs.Common.{◌≡◌, ap, ◌∙◌, arith}
use Rattle.store.specs.Steps.{step_answer, step_after}
use Rattle.store.proofs.Runs.{answers_more, map_more}
use Rattle.store.proofs.steps.run_all.Goals as goal

pub loop-i-preserved : goal.loop-i-preserved
loop-i-preserved g c =
    let o = g.S.ReadStore.objects c.args.store.now in
    let b = g.S.ReadStore.bytes c.args.store.now in
    let m = g.S.ReadStore.held c.args.store.now in
    let o₁ = g.S.ReadStore.objects c.loop-i.store in
    let b₁ = g.S.ReadStore.bytes c.loop-i.store in
    let m₁ = g.S.ReadStore.held c.loop-i.store in
    let m₂ = g.S.ReadStore.held c.do_step.new.store in
    let text = c.args.text.now in
    let s = c.index-steps-i.result in
    let x = c.do_step.result in
    let answer : x ≡ step_answer o b text m₁ s =
    c.do_step.ensures.answer ∙ ap (λ k. step_answer k b₁ text m₁ s) c.loop-i.invariant.2 ∙ ap (λ k. step_answer o k text m₁ s) c.loop-i.invariant.3 in
    let after : m₂ ≡ step_after o b text m₁ s =
    c.do_step.ensures.after ∙ ap (λ k. step_after k b₁ text m₁ s) c.loop-i.invariant.2 ∙ ap (λ k. step_after o k text m₁ s) c.loop-i.invariant.3 in (
      answers_more o b text m m₁ c.args.steps.now c.args.answers.now c.loop-i.answers c.loop-i.i s x
          (omega arith) (omega arith) c.index-steps-i.is c.loop-i.invariant.1 answer c.loop-i.invariant.0,
      map_more o b text m m₁ m₂ c.args.steps.now c.loop-i.i s (omega arith) c.index-steps-i.is c.loop-i.invariant.1 after,
      c.do_step.ensures.limits.0 ∙ c.loop-i.invariant.2,
      c.do_step.ensures.limits.1 ∙ c.loop-i.invariant.3,
    )
