use Rattle.std.proofs.Common.{◌≤◌, length, drop, Err, sym, ap, ◌∙◌, subst, arith, rules}
use Rattle.std.proofs.lemmas.Result.{err_from_is_err_and}
use Rattle.commands.specs.Building.{roomy}
use Rattle.commands.specs.Commands.{options_command}
use Rattle.run.specs.State.{awaits_options}
use Rattle.run.specs.Run.{after_fci}
use Rattle.stages.specs.Nexts.{handed, length_of}
use Rattle.stages.proofs.Commanding.{command_course, options_course_lem, enough, built, rest_built, fits_built, unbuilt, rest_unbuilt}
use Rattle.stages.proofs.ask.ask_options.Goals as goal

pub returns-in_err-get_processing_options : goal.returns-in_err-get_processing_options
unfolding after_fci
returns-in_err-get_processing_options g c =
    let p = err_from_is_err_and c.from_residual.result c.from_residual.ensures.1 in
    let H = g.S.ReadStore.held c.args.store.now in
    let buf = c.args.buffer.now in
    let buf' = c.get_processing_options.new.command in
    let x = roomy (length buf) (options_command H) in
    let e = c.in_err-get_processing_options.ensures in
    let is = p.1 ∙ ap Err p.2 in
    record {
      course = λ wide brought.
          ap (λ r. handed r buf' awaits_options H) is
          ∙ unbuilt _ buf buf' x awaits_options H e.value
          ∙ ap (command_course awaits_options H) (enough (length buf) (options_command H) wide)
          ∙ options_course_lem H (options_command H);
      rest = ap (drop (length_of c.from_residual.result)) (rest_unbuilt _ buf buf' x e.value e.after);
      fits = subst (λ r. length_of r ≤ length buf) (sym is) (omega arith);
    }

pub returns : goal.returns
unfolding after_fci
returns g c =
    let H = g.S.ReadStore.held c.args.store.now in
    let buf = c.args.buffer.now in
    let buf' = c.get_processing_options.new.command in
    let x = roomy (length buf) (options_command H) in
    let n = c.in_ok-get_processing_options.field-0 in
    let e = c.in_ok-get_processing_options.ensures in
    record {
      course = λ wide brought.
          built n buf buf' x awaits_options H e.value e.after
          ∙ ap (command_course awaits_options H) (enough (length buf) (options_command H) wide)
          ∙ options_course_lem H (options_command H);
      rest = rest_built n buf buf' x e.value e.after;
      fits = fits_built n buf buf' x e.value e.after (search rules);
    }
