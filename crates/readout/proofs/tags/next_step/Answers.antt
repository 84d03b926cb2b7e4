use Rattle.std.proofs.Common.{◌≡◌, Ok, sym, ap, ◌∙◌, arith, ltb-false}
use Rattle.tlv.specs.Told.{tag_told}
use Rattle.readout.proofs.Tagged.{whole_tag}
use Rattle.readout.proofs.tags.next_step.Goals as goal

pub returns-clause-whole : goal.returns-clause-whole
returns-clause-whole c =
    let text = c.args.text.now in
    let is : c.read_tag.result ≡ Ok (c.in_ok-tag.tag, c.in_ok-tag.rest) = grind arith in
    whole_tag text c.in_ok-tag.tag c.in_ok-tag.rest.now (omega (arith, ltb-false)) (λ i. omega (arith, c.type_inv.text i)) c.if-first-eq0.false (ap tag_told (sym is) ∙ c.read_tag.ensures)
