use Rattle.std.proofs.Common.{◌≡◌, ℕ, ◌+◌, ◌-◌, ◌/◌, ◌%◌, List, [], ◌∷◌, length, get_or, refl, ap, ◌∙◌, arith}
use Rattle.strip.proofs.Changes.{two_parts}
use Rattle.strip.proofs.bytes.write_entry.Goals as goal

abbrev header : ℕ → ℕ → List ℕ
header t n = t / 65536 % 256 ∷ t / 256 % 256 ∷ t % 256 ∷ n / 256 % 256 ∷ n % 256 ∷ []

-- a header made of the bytes xs of a tag and ys of a length
abbrev made : List ℕ → List ℕ → List ℕ
made xs ys = get_or xs 1 0 ∷ get_or xs 2 0 ∷ get_or xs 3 0 ∷ get_or ys 0 0 ∷ get_or ys 1 0 ∷ []

pub returns : goal.returns
returns c =
    let n : ℕ = length c.args.value.now in
    let head : c.copy_from_slice.new.self ≡ header c.args.tag.value n =
    c.copy_from_slice.ensures.after ∙ ap (λ xs. made xs c.to_be_bytes-2.result) c.to_be_bytes.ensures
    ∙ ap (λ ys. made (c.number.result / 16777216 % 256 ∷ c.number.result / 65536 % 256 ∷ c.number.result / 256 % 256 ∷ c.number.result % 256 ∷ []) ys) c.to_be_bytes-2.ensures
    ∙ ap (λ t. header t n) c.number.ensures in
    two_parts c.args.area.now c.copy_from_slice.new.self c.copy_from_slice-2.new.self
    (header c.args.tag.value n) c.args.value.now c.args.at 5 (c.args.at + 5 - c.args.at) (c.args.at + 5 + n - (c.args.at + 5))
    head c.copy_from_slice-2.ensures.after
    refl (omega arith) (omega arith) (omega (arith, c.requires.1))
