use Rattle.std.proofs.Common.{ap}
use Rattle.run.specs.Run.{unless, card_text, begins, after_fci}
use Rattle.stages.proofs.fci.check_fci.Goals as goal

pub returns : goal.returns
unfolding begins
returns c = λ share held. ap (λ o. unless o held (card_text 0x6F share held c.args.fci.now after_fci)) c.check_size.ensures
