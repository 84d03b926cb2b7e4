-- The headers that the code writes are those of the commands.
use Rattle.std.proofs.Common.{◌≡◌, ℕ, ◌+◌, ◌<◌, ◌≤◌, ltb, List, [], ◌∷◌, ◌++◌, length, sym, ap, ◌∙◌, arith}
use Rattle.std.proofs.lemmas.Bool.{lt-ltb, le-ltb, cond-true, cond-false}
use Rattle.decision.specs.declared.cryptogram.Cryptogram.{Cryptogram}
use Rattle.decision.specs.Cryptograms.{parameter}
use Rattle.commands.specs.Commands.{length_bytes, get_options, generate_ac}

-- the class and instruction bytes are as they are told
told_bytes : (c i x y : ℕ) (rest : List ℕ) → c ≡ x → i ≡ y → c ∷ i ∷ rest ≡ x ∷ y ∷ rest
told_bytes c i x y rest e f = ap (λ n. n ∷ i ∷ rest) e ∙ ap (λ n. x ∷ n ∷ rest) f

pub generate_empty : (kind : Cryptogram) (c i p n : ℕ) → c ≡ 0x80 → i ≡ 0xAE → p ≡ parameter kind → n ≡ 0 → c ∷ i ∷ p ∷ 0 ∷ n ∷ [] ≡ generate_ac kind []
unfolding generate_ac
generate_empty kind c i p n ec ei ep en =
    told_bytes c i 0x80 0xAE (p ∷ 0 ∷ n ∷ []) ec ei ∙ ap (λ x. 0x80 ∷ 0xAE ∷ x ∷ 0 ∷ n ∷ []) ep ∙ ap (λ x. 0x80 ∷ 0xAE ∷ parameter kind ∷ 0 ∷ x ∷ []) en

pub generate_full : (kind : Cryptogram) (c i p n : ℕ) → c ≡ 0x80 → i ≡ 0xAE → p ≡ parameter kind → (n ≡ 0 → ⊥) →
    (ds : List ℕ) → length ds ≡ n → c ∷ i ∷ p ∷ 0 ∷ n ∷ (ds ++ 0 ∷ []) ≡ generate_ac kind ds
unfolding generate_ac
generate_full kind c i p n ec ei ep some [] l = absurd (some (sym l))
generate_full kind c i p n ec ei ep some (d ∷ ds) l =
    told_bytes c i 0x80 0xAE (p ∷ 0 ∷ n ∷ ((d ∷ ds) ++ 0 ∷ [])) ec ei
    ∙ ap (λ x. 0x80 ∷ 0xAE ∷ x ∷ 0 ∷ n ∷ ((d ∷ ds) ++ 0 ∷ [])) ep
    ∙ ap (λ x. 0x80 ∷ 0xAE ∷ parameter kind ∷ 0 ∷ x ∷ ((d ∷ ds) ++ 0 ∷ [])) (sym l)

-- the command with its length field in some form
abbrev with_length : List ℕ → List ℕ → List ℕ
with_length field ds = 0x80 ∷ 0xA8 ∷ 0 ∷ 0 ∷ length (0x83 ∷ (field ++ ds)) ∷ ((0x83 ∷ (field ++ ds)) ++ 0 ∷ [])

pub options_short : (c i n : ℕ) → c ≡ 0x80 → i ≡ 0xA8 → n < 128 → (ds : List ℕ) → length ds ≡ n → c ∷ i ∷ 0 ∷ 0 ∷ (n + 2) ∷ 0x83 ∷ n ∷ (ds ++ 0 ∷ []) ≡ get_options ds
unfolding get_options
options_short c i n ec ei small ds l =
    let field : length_bytes (length ds) ≡ length ds ∷ [] = cond-true (ltb (length ds) 128) (length ds ∷ []) (0x81 ∷ length ds ∷ []) (lt-ltb (length ds) 128 (omega (arith, l))) in
    told_bytes c i 0x80 0xA8 (0 ∷ 0 ∷ (n + 2) ∷ 0x83 ∷ n ∷ (ds ++ 0 ∷ [])) ec ei
    ∙ ap (λ x. 0x80 ∷ 0xA8 ∷ 0 ∷ 0 ∷ (x + 2) ∷ 0x83 ∷ x ∷ (ds ++ 0 ∷ [])) (sym l)
    ∙ ap (λ x. 0x80 ∷ 0xA8 ∷ 0 ∷ 0 ∷ x ∷ 0x83 ∷ length ds ∷ (ds ++ 0 ∷ [])) (omega arith)
    ∙ ap (λ f. with_length f ds) (sym field)

pub options_long : (c i n : ℕ) → c ≡ 0x80 → i ≡ 0xA8 → 128 ≤ n → (ds : List ℕ) → length ds ≡ n → c ∷ i ∷ 0 ∷ 0 ∷ (n + 3) ∷ 0x83 ∷ 0x81 ∷ n ∷ (ds ++ 0 ∷ []) ≡ get_options ds
unfolding get_options
options_long c i n ec ei large ds l =
    let field : length_bytes (length ds) ≡ 0x81 ∷ length ds ∷ [] = cond-false (ltb (length ds) 128) (length ds ∷ []) (0x81 ∷ length ds ∷ []) (le-ltb (length ds) 128 (omega (arith, l))) in
    told_bytes c i 0x80 0xA8 (0 ∷ 0 ∷ (n + 3) ∷ 0x83 ∷ 0x81 ∷ n ∷ (ds ++ 0 ∷ [])) ec ei
    ∙ ap (λ x. 0x80 ∷ 0xA8 ∷ 0 ∷ 0 ∷ (x + 3) ∷ 0x83 ∷ 0x81 ∷ x ∷ (ds ++ 0 ∷ [])) (sym l)
    ∙ ap (λ x. 0x80 ∷ 0xA8 ∷ 0 ∷ 0 ∷ x ∷ 0x83 ∷ 0x81 ∷ length ds ∷ (ds ++ 0 ∷ [])) (omega arith)
    ∙ ap (λ f. with_length f ds) (sym field)
