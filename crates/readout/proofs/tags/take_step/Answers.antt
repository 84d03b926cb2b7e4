use Rattle.std.proofs.Common.{◌≡◌, length, Some, Ok, Err, sym, ap, ◌∙◌, subst, arith}
use Rattle.std.proofs.lemmas.Result.{err_from_is_err_and}
use Rattle.keyed.specs.declared.list.NotAdded.TheVariants.{Full}
use Rattle.keyed.specs.Elements.{elements, memory}
use Rattle.readout.specs.Listing.{filler, want, next_of, numbers, step_told, WholeTag, Whole}
use Rattle.readout.proofs.Taking.{at_end_lem, at_filler, at_fault, less, went, full_step}
use Rattle.readout.proofs.tags.take_step.Goals as goal
use Rattle.readout.proofs.tags.take_step.Goals.{In-Some-Want}

-- what was read at a tag
wanted : (c : In-Some-Want) → want c.in-Some-Want.number c.in-Some-Want.at c.in-Some-Want.after.now ≡ next_of c.args.end c.args.text.now
wanted c =
    ap (λ s. step_told (Ok (Some s))) (sym c.in-Some-Want.field-0-is) ∙ ap (λ o. step_told (Ok o)) (sym c.in-Some-Want.is) ∙ c.in_ok-next_step.ensures.value

whole : (c : In-Some-Want) → Whole c.in-Some-Want.number
whole c = subst (λ s. WholeTag (Ok (Some s))) c.in-Some-Want.field-0-is (subst (λ o. WholeTag (Ok o)) c.in-Some-Want.is c.in_ok-next_step.ensures.whole)

pub returns-in_err-next_step-clause-step : goal.returns-in_err-next_step-clause-step
returns-in_err-next_step-clause-step c =
    let p = err_from_is_err_and c.from_residual.result c.from_residual.ensures.1 in
    rw (p.1, p.2) (at_fault c.args.end (numbers (elements c.args.list.now)) c.args.text.now _ c.in_err-next_step.ensures.value)

pub returns-in-None-clause-step : goal.returns-in-None-clause-step
returns-in-None-clause-step c = at_end_lem c.args.end (numbers (elements c.args.list.now)) c.args.text.now (ap (λ o. step_told (Ok o)) (sym c.in-None.is) ∙ c.in_ok-next_step.ensures.value)

pub returns-in-Some-Filler-clause-step : goal.returns-in-Some-Filler-clause-step
returns-in-Some-Filler-clause-step c =
    let bs = c.args.text.now in
    let rest = c.in-Some-Filler.after.now in
    let held = numbers (elements c.args.list.now) in
    let q : filler rest ≡ next_of c.args.end bs = ap (λ s. step_told (Ok (Some s))) (sym c.in-Some-Filler.field-0-is) ∙ ap (λ o. step_told (Ok o)) (sym c.in-Some-Filler.is) ∙ c.in_ok-next_step.ensures.value in
    (at_filler c.args.end held bs rest q, less c.args.end held bs (filler rest) q)

pub returns-then-eq-clause-step : goal.returns-then-eq-clause-step
returns-then-eq-clause-step c =
    let is : c.add.result ≡ Err Full = grind arith in
    full_step c.args.end (elements c.args.list.now) c.args.text.now c.in-Some.tag c.in-Some-Want.number c.in-Some-Want.at c.in-Some-Want.after.now (length (memory c.args.list.now))
    (wanted (goal.at.returns-then-eq-clause-step c).In-Some-Want) c.in-Some.ensures c.requires (sym is ∙ c.add.ensures.answer)

pub returns-else-eq : goal.returns-else-eq
returns-else-eq c =
    let at = (goal.at.returns-else-eq c).In-Some-Want in
    let bs = c.args.text.now in
    let rest = c.in-Some-Want.after.now in
    let q = wanted at in
    let not_full : c.add.result ≡ Err Full → ⊥ = λ e. grind arith in
    let w = went c.args.end (elements c.args.list.now) (elements c.add.new.self) bs c.in-Some.tag c.in-Some-Want.number c.in-Some-Want.at rest
    c.add.result (length (memory c.args.list.now)) q c.in-Some.ensures (whole at).is c.requires c.add.ensures.answer c.add.ensures.elements not_full in
    record {
      step = (w.on, less c.args.end (numbers (elements c.args.list.now)) bs (want c.in-Some-Want.number c.in-Some-Want.at rest) q);
      tags = w.tags;
      room = c.add.ensures.room;
      named = c.add.ensures.named;
    }
