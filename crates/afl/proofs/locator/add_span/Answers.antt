use Rattle.std.proofs.Common.{◌+◌, ◌-◌, length, is_ok, is_err, sym, ap, ◌∙◌, arith}
use Rattle.keyed.specs.Elements.{elements, memory, answer, grown}
use Rattle.keyed.specs.Records.{record_same}
use Rattle.afl.specs.Afl.{run, record_at}
use Rattle.afl.specs.Steps.{gather}
use Rattle.afl.proofs.Gathering.{added, stopped, err_told, was_added, not_added}
use Rattle.afl.proofs.locator.add_span.Goals as goal

pub loop-number-preserved : goal.loop-number-preserved
loop-number-preserved c =
    let inv = c.loop-number.invariant in
    let room = length (memory c.args.list.now) in
    let held = elements c.loop-number.list in
    let s = c.args.span.sfi in
    let n = c.loop-number.number in
    let e = c.args.span.last + 1 in
    let said = c.add.ensures in
    let is = was_added c.add.result (sym c.map_err.ensures.variant ∙ ap is_ok c.in_ok-map_err.was) in (
      said.named ∙ inv.0,
      said.room ∙ inv.1,
      ap (λ xs. gather room xs (run s (n + 1) (e - (n + 1)))) (said.elements ∙ ap (λ r. grown r held (record_at s n)) is)
          ∙ added room held s n e (omega arith) (ap (λ k. answer record_same k held (record_at s n)) (sym inv.1) ∙ sym said.answer ∙ is)
          ∙ inv.2,
    )

pub returns-in_err-map_err : goal.returns-in_err-map_err
returns-in_err-map_err c =
    let inv = c.loop-number.invariant in
    let room = length (memory c.args.list.now) in
    let held = elements c.loop-number.list in
    let s = c.args.span.sfi in
    let n = c.loop-number.number in
    let said = c.add.ensures in
    record {
      added = err_told c.from_residual.result (elements c.add.new.self) c.from_residual.ensures.0
          ∙ stopped room held s n (c.args.span.last + 1) (omega arith)
          (ap is_err (ap (λ k. answer record_same k held (record_at s n)) (sym inv.1) ∙ sym said.answer) ∙ not_added c.add.result (sym c.map_err.ensures.variant ∙ ap is_ok c.in_err-map_err.was)) ∙ inv.2;
      room = said.room ∙ inv.1;
      named = said.named ∙ inv.0;
    }
