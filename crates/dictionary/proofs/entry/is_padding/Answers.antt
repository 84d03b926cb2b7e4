use Rattle.std.proofs.Common.{◌∙◌, rules}
use borrow.Author.Tests.{tests}
use Rattle.std.proofs.lemmas.Iterator.{YieldsList-from_slice}
use Rattle.std.proofs.lemmas.Iterator.Search.{all_from_yields_List}
use Rattle.dictionary.proofs.Halves.{full, padding}
use Rattle.dictionary.proofs.entry.is_padding.Goals as goal

pub returns : goal.returns
returns c =
    all_from_yields_List full c.all.new.self _ _ c.all.ensures.ran (YieldsList-from_slice c.args.value.now cc) (λ x b q k. search (rules, tests))
    ∙ padding c.args.value.now
