use Rattle.std.proofs.Common.{Some, ap, ◌∙◌}
use Rattle.store.specs.Map.{changed}
use Rattle.keeping.specs.Room.{verification_results}
use Rattle.run.specs.Run.{decides}
use Rattle.stages.proofs.record.put_and_ask.Goals as goal

pub returns : goal.returns
returns g c =
    let H = g.S.ReadStore.held c.args.store.now in
    let e = c.ask_decided.ensures in
    let p = c.put_verification_results.ensures in
    record {
      course = λ wide s roomy records. e.course wide records ∙ ap decides (p.after s roomy ∙ ap (λ v. changed H verification_results (Some v)) c.results_of.ensures);
      rest = e.rest;
      fits = e.fits;
      shape = e.shape;
      roomy = p.roomy;
      limits = p.limits;
    }
