use Rattle.std.proofs.Common.{ap, ◌∙◌}
use Rattle.run.specs.Run.{unless, missing, verified, decides}
use Rattle.stages.proofs.Leaving.{none_left}
use Rattle.stages.proofs.record.check_held.Goals as goal

pub returns : goal.returns
returns g c = λ left none brought.
    let H = g.S.ReadStore.held c.args.store.now in
    ap (λ o. unless o H (decides (verified H))) (c.none_missing.ensures ∙ ap missing c.first_missing.ensures) ∙ none_left left H brought none
