use Rattle.std.proofs.Common.{◌∙◌, ap, sym, ◌&&◌}
use Rattle.dictionary.proofs.Halves.{none, some, stops}
use Rattle.dictionary.proofs.entry.is_compressed.Goals as goal

pub returns-in-empty : goal.returns-in-empty
returns-in-empty c = none c.args.value.now c.without_digits.result.now c.without_digits.ensures c.in-empty.len_below

pub returns-then-ends_digits : goal.returns-then-ends_digits
returns-then-ends_digits c =
    ap (λ t. t && c.is_padding.result) (sym c.if-ends_digits.true)
    ∙ some c.args.value.now c.without_digits.result.now c.ends_digits.result _ c.without_digits.ensures c.in-len1-up.len_at_least c.ends_digits.ensures c.is_padding.ensures

pub returns-else-ends_digits : goal.returns-else-ends_digits
returns-else-ends_digits c =
    stops c.args.value.now c.without_digits.result.now c.ends_digits.result c.without_digits.ensures c.in-len1-up.len_at_least c.ends_digits.ensures c.if-ends_digits.false
