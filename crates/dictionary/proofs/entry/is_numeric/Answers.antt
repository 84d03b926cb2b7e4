use Rattle.std.proofs.Common.{◌∙◌, rules}
use borrow.Author.Tests.{tests}
use Rattle.std.proofs.lemmas.Iterator.{YieldsList-from_slice}
use Rattle.std.proofs.lemmas.Iterator.Search.{all_from_yields_List}
use Rattle.dictionary.proofs.Halves.{digits, numeric}
use Rattle.dictionary.proofs.entry.is_numeric.Goals as goal

pub returns : goal.returns
returns c =
    all_from_yields_List digits c.all.new.self _ _ c.all.ensures.ran (YieldsList-from_slice c.args.value.now cc) (λ x b q k. search (rules, tests))
    ∙ numeric c.args.value.now
