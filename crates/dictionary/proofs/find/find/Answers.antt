use Rattle.std.proofs.Common.{sym, ◌∙◌, rules}
use Rattle.std.proofs.lemmas.List.Sorted.{answers_always}
use Rattle.dictionary.proofs.Search.{found_some, found_none}
use Rattle.dictionary.proofs.find.find.Goals as goal

pub returns-in_err-index : goal.returns-in_err-index
returns-in_err-index c =
    let table = c.all-table.ensures.value in
    rw c.from_residual.ensures (found_none _ _ table _ c.binary_search_by_key.ensures.bound (c.binary_search_by_key.ensures.position (λ e. e.tag) (answers_always _ _ _ (λ f a r g called. search rules))) (sym c.in_err-index.was ∙ c.ok.ensures.value))

pub returns : goal.returns
returns c =
    let table = c.all-table.ensures.value in
    found_some _ _ table _ c.binary_search_by_key.ensures.bound (c.binary_search_by_key.ensures.position (λ e. e.tag) (answers_always _ _ _ (λ f a r g called. search rules))) _ _ c.in_ok-index.ensures.value
