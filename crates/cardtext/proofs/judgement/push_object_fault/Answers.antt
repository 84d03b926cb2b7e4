use Rattle.std.proofs.Common.{◌++◌, vec_items, codes, decimal, ap, ◌∙◌}
use Rattle.std.proofs.lemmas.Result.{IfOk-weaker}
use Rattle.judge.specs.Faults.{fault_number}
use Rattle.cardtext.specs.Report.{object_fault, tag_digits}
use Rattle.cardtext.proofs.Joining.{fifth}
use Rattle.cardtext.proofs.judgement.push_object_fault.Goals as goal

pub returns : goal.returns
unfolding object_fault
returns c =
    let out-0 = vec_items c.args.out.now in
    let place = decimal c.args.at in
    let words =
    c.in_ok-extend_from_slice.ensures.items
    ∙ ap (λ xs. out-0 ++ xs)
    (c.as_bytes.ensures.value ∙ c.in_ok-words.ensures) in
    IfOk-weaker c.push_tag.result _ _
    (λ x e. fifth out-0 (codes "object fault ") (decimal (fault_number c.args.kind)) (codes " place ") place (codes " tag ") (tag_digits c.args.tag) words e)
    c.push_tag.ensures
