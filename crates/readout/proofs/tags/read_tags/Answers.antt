use Rattle.std.proofs.Common.{length, Ok, ap, ◌∙◌}
use Rattle.std.proofs.lemmas.Result.{err_from_is_err_and}
use Rattle.keyed.specs.Elements.{elements}
use Rattle.readout.specs.Listing.{numbers, goes_on}
use Rattle.readout.proofs.Taking.{start, front_is}
use Rattle.readout.proofs.tags.read_tags.Goals as goal

pub returns-clause-value : goal.returns-clause-value
returns-clause-value c =
    let l = c.take_tags.new.list in
    let v = c.args.text.now in
    let f = front_is c.len.result (elements l) c.as_slice.result.now c.copy_numbers.new.out c.as_slice.ensures c.copy_numbers.ensures c.len.ensures.value in
    ap Ok f ∙ c.in_ok-take_tags.ensures.taken ∙ ap (λ xs. goes_on (length v) (numbers xs) v) c.new-list.ensures.elements ∙ start v

pub returns-in_err-take_tags-clause-value : goal.returns-in_err-take_tags-clause-value
returns-in_err-take_tags-clause-value c =
    let v = c.args.text.now in
    let p = err_from_is_err_and c.from_residual.result c.from_residual.ensures.1 in
    rw (p.1, p.2) (c.in_err-take_tags.ensures.taken ∙ ap (λ xs. goes_on (length v) (numbers xs) v) c.new-list.ensures.elements ∙ start v)
