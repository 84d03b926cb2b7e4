use Rattle.std.proofs.Common.{◌≡◌, ◌-◌, length, Err, refl, sym, ◌∙◌, arith}
use Rattle.std.proofs.lemmas.Result.{err_from_is_err_and}
use Rattle.masking.proofs.Calls.{copy_answer_masked, copy_filled_masked, copy_rest_masked}
use Rattle.masking.proofs.MaskingReadStore.copy_out.Goals as goal

pub returns : goal.returns
returns g c =
    let pad = c.args.self.now.pad.bytes in
    let t = c.args.tag.value in
    let o = g.S.ReadStore.held c.args.self.now.lower t in
    let d = c.args.out.now in
    record {
      answer = c.in_ok-n.ensures.answer ∙ sym (copy_answer_masked pad t o (length d));
      after = copy_filled_masked pad t o d c.copy_out.new.out c.apply.new.text c.in_ok-n.n (c.in_ok-n.n - 0) (omega arith)
          c.in_ok-n.ensures.answer c.copy_out.ensures.after c.apply.ensures;
    }

pub returns-in_err-n : goal.returns-in_err-n
returns-in_err-n g c =
    let pad = c.args.self.now.pad.bytes in
    let t = c.args.tag.value in
    let o = g.S.ReadStore.held c.args.self.now.lower t in
    let d = c.args.out.now in
    let e = c.in_err-n.ensures in
    let p = err_from_is_err_and c.from_residual.result c.from_residual.ensures.1 in
    let same : c.from_residual.result ≡ Err c.in_err-n.field-0.0 = rw (p.1, p.2) refl in
    record {
      answer = same ∙ e.answer ∙ sym (copy_answer_masked pad t o (length d));
      after = copy_rest_masked pad t o d c.copy_out.new.out c.in_err-n.field-0.0 e.answer e.after;
    }
