use Rattle.std.proofs.Common.{length, Ok, Err}
use Rattle.std.proofs.lemmas.Result.{err_from_is_err_and}
use Rattle.stages.proofs.Cards.{one_taken}
use Rattle.stages.proofs.card.take_object.Goals as goal

pub returns-clause-course : goal.returns-clause-course
returns-clause-course g c = λ wide one roomy next.
    let e = c.in_ok-take_text.ensures in
    let H = g.S.ReadStore.held in
    one_taken c.args.shares.now c.args.outer (length c.args.list.now) (H c.args.store.now) (H c.take_text.new.store) c.args.text.now next (Ok tt) wide one e.answer (e.after roomy)

pub returns-in_err-take_text-clause-course : goal.returns-in_err-take_text-clause-course
returns-in_err-take_text-clause-course g c = λ wide one roomy next.
    let e = c.in_err-take_text.ensures in
    let H = g.S.ReadStore.held in
    let p = err_from_is_err_and c.from_residual.result c.from_residual.ensures.1 in
    rw (p.1, p.2) (one_taken c.args.shares.now c.args.outer (length c.args.list.now) (H c.args.store.now) (H c.take_text.new.store) c.args.text.now next (Err _) wide one e.answer (e.after roomy))
