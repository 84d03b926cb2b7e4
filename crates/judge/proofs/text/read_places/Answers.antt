use Rattle.std.proofs.Common.{length}
use Rattle.std.proofs.lemmas.Result.{err_from_is_err_and}
use Rattle.judge.proofs.Reading.{read_well, read_refused}
use Rattle.judge.proofs.Verdicts.{judged_by_rules}
use Rattle.judge.proofs.Holding.{same_judged}
use Rattle.judge.proofs.text.read_places.Goals as goal

pub returns-in_err-read_text : goal.returns-in_err-read_text
returns-in_err-read_text c =
    let p = err_from_is_err_and c.from_residual.result c.from_residual.ensures.1 in
    record {
      read = rw (p.1, p.2) (read_refused (length c.args.list.now) c.args.text.now c.read_text.new.list _ c.in_err-read_text.ensures.read);
      rules = λ k m. judged_by_rules k m c.args.text.now;
      held = λ k m n same. same_judged k m n c.args.text.now same;
    }

pub returns : goal.returns
returns c = record {
  read = read_well (length c.args.list.now) c.args.text.now c.read_text.new.list c.in_ok-read_text.field-0
      c.in_ok-read_text.ensures.read c.in_ok-read_text.ensures.within c.read_text.auto.list;
  rules = λ k m. judged_by_rules k m c.args.text.now;
  held = λ k m n same. same_judged k m n c.args.text.now same;
}
