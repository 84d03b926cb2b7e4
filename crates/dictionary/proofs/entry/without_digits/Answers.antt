use Rattle.std.proofs.Common.{◌≡◌, ◌∙◌, arith, rules}
use borrow.Author.Tests.{tests}
use Rattle.std.specs.List.{prefix_len}
use Rattle.std.proofs.lemmas.Grind.{common_steps}
use Rattle.std.proofs.lemmas.List.Folds.{length-prefix_len}
use Rattle.std.proofs.lemmas.Iterator.{YieldsList-from_slice}
use Rattle.std.proofs.lemmas.Iterator.Consumers.{count_from_yields_List}
use Rattle.std.proofs.lemmas.Iterator.Search.{YieldsList-from_take_while}
use Rattle.dictionary.proofs.Halves.{digits}
use Rattle.dictionary.proofs.entry.without_digits.Goals as goal

pub returns : goal.returns
returns c =
    let n : c.count-digits.result ≡ prefix_len digits c.args.value.now =
    count_from_yields_List c.take_while.result _ c.count-digits.ensures.ran
    (YieldsList-from_take_while _ digits (YieldsList-from_slice c.args.value.now cc) c.take_while.ensures.closure c.take_while.ensures.done (λ x b q k. search (rules, tests)))
    ∙ length-prefix_len digits c.args.value.now in
    grind (arith, common_steps, n)
