use Rattle.std.proofs.Common.{◌≡◌, IsUtf8, sym, subst, arith, rules}
use Rattle.hexadecimal.specs.Digits.{written}
use Rattle.lines.proofs.Hex.{written_utf8}
use Rattle.lines.proofs.words.written_word.Goals as goal

-- the digits are characters of ASCII, so none is replaced
pub returns : goal.returns
returns c =
    let e : c.as_slice.result.now ≡ written c.args.bytes.now = search rules in
    let utf8 : IsUtf8 c.as_slice.result.now = subst IsUtf8 (sym e) (written_utf8 c.args.bytes.now (λ i. omega (arith, c.type_inv.bytes i))) in
    search (rules, utf8, e)
