use Rattle.std.proofs.Common.{ap, ◌∙◌}
use Rattle.std.proofs.lemmas.Result.{err_from_is_err_and}
use Rattle.run.specs.Run.{unless, bad_status, text_of, answer_text, answered}
use Rattle.stages.proofs.answer.check_answer.Goals as goal

pub returns-in_err-check_size : goal.returns-in_err-check_size
unfolding answered
returns-in_err-check_size c = λ phase share held.
    let a = c.args.answer.now in
    let p = err_from_is_err_and c.from_residual.result c.from_residual.ensures.1 in
    rw (p.1, p.2) (ap (λ o. unless o held (unless (bad_status a) held (answer_text phase share held (text_of a)))) c.in_err-check_size.ensures.cause)

pub returns : goal.returns
unfolding answered
returns c = λ phase share held.
    let a = c.args.answer.now in
    ap (λ o. unless o held (answer_text phase share held (text_of a))) c.check_status.ensures
    ∙ ap (λ o. unless o held (unless (bad_status a) held (answer_text phase share held (text_of a)))) c.in_ok-check_size.ensures.cause
