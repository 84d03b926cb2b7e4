use Rattle.std.proofs.Common.{length, sym, ap, ◌∙◌}
use Rattle.run.specs.Run.{fails}
use Rattle.stages.proofs.Cards.{not_outer}
use Rattle.stages.proofs.card.outer_cause.Goals as goal

pub returns : goal.returns
returns c = λ wide other share held next.
    not_outer c.args.outer share (length c.args.list.now) held c.args.text.now next c.read_text.result c.read_text.new.list wide other c.read_text.ensures.read
    ∙ ap (λ x. fails x held) (sym c.cause_of_reading.ensures)
