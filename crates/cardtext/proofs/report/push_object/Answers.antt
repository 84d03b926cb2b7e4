use Rattle.std.proofs.Common.{◌≡◌, [], ◌++◌, vec_items, ap, ◌∙◌}
use Rattle.std.proofs.lemmas.Result.{IfOk-weaker}
use Rattle.hexadecimal.specs.Digits.{written}
use Rattle.dictionary.specs.Dictionary.{entry_of}
use Rattle.dictionary.specs.Names.{name_of}
use Rattle.tlv.specs.Values.{value_at}
use Rattle.cardtext.specs.Words.{with_entry}
use Rattle.cardtext.proofs.Joining.{then, last, entry_behind}
use Rattle.cardtext.proofs.report.push_object.Goals as goal

pub returns-clause-items : goal.returns-clause-items
returns-clause-items c =
    let p = c.args.place.now in
    let out-0 = vec_items c.args.out.now in
    let out-1 = vec_items c.extend_from_slice.new.self in
    let out-2 = vec_items c.push_number.new.out in
    let out-3 = vec_items c.extend_from_slice-2.new.self in
    let out-4 = vec_items c.push_tag.new.out in
    let out-5 = vec_items c.extend_from_slice-3.new.self in
    let out-6 = vec_items c.push_hex.new.out in
    let out-7 = vec_items c.extend_from_slice-4.new.self in
    let out-8 = vec_items c.push_entry.new.out in
    let value : out-6 ≡ out-5 ++ written (value_at c.args.text.now p) =
    c.in_ok-push_hex.ensures.items ∙ ap (λ v. out-5 ++ written v) c.value_in.ensures in
    let entry : out-8 ≡ out-7 ++ with_entry [] (entry_of p.tag) (name_of p.tag) =
    c.in_ok-push_entry.ensures ∙ entry_behind out-7 (entry_of p.tag) (name_of p.tag) in
    IfOk-weaker c.extend_from_slice-5.result _ _
    (λ x e.
    then out-0 out-1 _ _ c.in_ok-extend_from_slice.ensures.items
    (then out-1 out-2 _ _ c.in_ok-push_number.ensures
    (then out-2 out-3 _ _ c.in_ok-extend_from_slice-2.ensures.items
    (then out-3 out-4 _ _ c.in_ok-push_tag.ensures
    (then out-4 out-5 _ _ c.in_ok-extend_from_slice-3.ensures.items
    (then out-5 out-6 _ _ value
    (then out-6 out-7 _ _ c.in_ok-extend_from_slice-4.ensures.items
    (then out-7 out-8 _ _ entry e))))))))
    (last c.extend_from_slice-5.result out-8 _ c.extend_from_slice-5.ensures.items)
