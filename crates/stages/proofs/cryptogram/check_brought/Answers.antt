use Rattle.std.proofs.Common.{get_or, ap, ◌∙◌}
use Rattle.store.specs.Map.{empty}
use Rattle.keeping.specs.Keeping.{stored}
use Rattle.commands.specs.Commands.{bytes}
use Rattle.decision.specs.Cryptograms.{answered}
use Rattle.run.specs.Run.{unless, missing, gives, after_cryptogram}
use Rattle.stages.proofs.cryptogram.check_brought.Goals as goal

pub returns : goal.returns
unfolding after_cryptogram
returns c = λ requested held.
    let M = stored c.args.text.now c.args.places.now empty in
    ap (λ o. unless o held (gives held (answered requested (get_or (bytes (M 0x9F27)) 0 0)))) (c.none_missing.ensures ∙ ap missing c.first_not_brought.ensures)
