use Rattle.std.proofs.Common.{◌∙◌}
use Rattle.stages.proofs.record.after_last.Goals as goal

pub returns : goal.returns
returns g c =
    let e = c.put_and_ask.ensures in
    record {
      course = λ wide s roomy left none brought. e.course wide s roomy left ∙ c.in_ok-check_held.ensures left none brought;
      rest = e.rest;
      fits = e.fits;
      shape = e.shape;
      roomy = e.roomy;
      limits = e.limits;
    }
