use Rattle.std.proofs.Common.{◌≤◌, length, take, drop, Err, sym, refl, ap, ◌∙◌, subst, arith}
use Rattle.std.proofs.lemmas.Result.{err_from_is_err_and, IfOk-from_err}
use Rattle.stages.specs.Nexts.{awaiting, course_of, command_length}
use Rattle.stages.proofs.ask.ask_first.Goals as goal

pub returns-in_err-command : goal.returns-in_err-command
returns-in_err-command c =
    let p = err_from_is_err_and c.from_residual.result c.from_residual.ensures.1 in
    let e = c.in_err-command.ensures in
    record {
      course = λ wide records held.
          ap (λ r. course_of r c.ask_record.new.buffer records held) (p.1 ∙ ap Err p.2)
          ∙ e.course wide (awaiting (take c.args.left records)) held;
      rest = ap (drop (command_length c.from_residual.result)) e.rest;
      fits = subst (λ r. command_length r ≤ length c.args.buffer.now) (sym (p.1 ∙ ap Err p.2)) (omega arith);
      shape = IfOk-from_err _ _ c.from_residual.ensures.0;
    }

pub returns : goal.returns
returns c =
    let e = c.in_ok-command.ensures in
    record {
      course = λ wide records held. e.course wide (awaiting (take c.args.left records)) held;
      rest = e.rest;
      fits = e.fits;
      shape = refl;
    }
