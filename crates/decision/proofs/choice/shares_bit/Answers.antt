use Rattle.std.proofs.Common.{◌∙◌, rules}
use borrow.Author.Tests.{tests}
use Rattle.std.proofs.lemmas.Iterator.{YieldsList-from_slice, YieldsList-from_zip}
use Rattle.std.proofs.lemmas.Iterator.Search.{any_from_yields_List}
use Rattle.decision.proofs.Steps.{pair_shares, any_pair}
use Rattle.decision.proofs.choice.shares_bit.Goals as goal

pub returns : goal.returns
returns c =
    any_from_yields_List pair_shares c.any.new.self _ _ c.any.ensures.ran
    (YieldsList-from_zip (YieldsList-from_slice c.args.a.now cc) (YieldsList-from_slice c.args.b.now cc))
    (λ x b q k. search (rules, tests))
    ∙ any_pair c.args.a.now c.args.b.now
