-- The word of a tag.
use Rattle.std.proofs.Common.{◌≡◌, ℕ, ◌/◌, ◌%◌, ◌^◌, ◌<◌, false, eqb, List, [], ◌∷◌, drop, sym, ap, ◌∙◌, ⊎_elim, arith}
use mir.Syntax.{w32}
use Rattle.std.specs.Int.{to_be_bytes}
use Rattle.std.specs.List.{prefix_len}
use Rattle.std.proofs.lemmas.Bool.{cases_lt, lt-ltb, le-ltb, ne_eqb}
use Rattle.hexadecimal.specs.Digits.{written}
use Rattle.lines.specs.Words.{tag_word}

abbrev stripped : ℕ → ℕ → ℕ → ℕ → List ℕ
stripped a b c d = written (drop (prefix_len (λ x. eqb x 0) (a ∷ b ∷ c ∷ d ∷ [])) (a ∷ b ∷ c ∷ d ∷ []))

one : (a b c d : ℕ) → a ≡ 0 → b ≡ 0 → c ≡ 0 → (d ≡ 0 → ⊥) → stripped a b c d ≡ written (d ∷ [])
one a b c d ea eb ec h = rw (ea, eb, ec, ne_eqb d 0 h)

two : (a b c d : ℕ) → a ≡ 0 → b ≡ 0 → (c ≡ 0 → ⊥) → stripped a b c d ≡ written (c ∷ d ∷ [])
two a b c d ea eb h = rw (ea, eb, ne_eqb c 0 h)

three : (a b c d : ℕ) → a ≡ 0 → (b ≡ 0 → ⊥) → stripped a b c d ≡ written (b ∷ c ∷ d ∷ [])
three a b c d ea h = rw (ea, ne_eqb b 0 h)

four : (a b c d : ℕ) → (a ≡ 0 → ⊥) → stripped a b c d ≡ written (a ∷ b ∷ c ∷ d ∷ [])
four a b c d h = rw (ne_eqb a 0 h)

pub written_tag : (t : ℕ) → t < 2 ^ 32 → 0 < t → written (drop (prefix_len (λ b. eqb b 0) (to_be_bytes w32 t)) (to_be_bytes w32 t)) ≡ tag_word t
written_tag t small some =
    let a = t / 16777216 % 256 in
    let b = t / 65536 % 256 in
    let c = t / 256 % 256 in
    let d = t % 256 in
    let no : eqb t 0 ≡ false = ne_eqb t 0 (λ e. omega arith) in
    ⊎_elim
    (λ l. one a b c d (omega arith) (omega arith) (omega arith) (λ e. omega arith) ∙ sym (rw (no, lt-ltb t 256 l)))
    (λ g. ⊎_elim
    (λ l. two a b c d (omega arith) (omega arith) (λ e. omega arith) ∙ sym (rw (no, le-ltb t 256 g, lt-ltb t 65536 l)))
    (λ h. ⊎_elim
    (λ l. three a b c d (omega arith) (λ e. omega arith) ∙ sym (rw (no, le-ltb t 256 g, le-ltb t 65536 h, lt-ltb t 16777216 l)))
    (λ k. let top : a ≡ t / 16777216 = omega arith in
    four a b c d (λ e. omega arith) ∙ ap (λ x. written (x ∷ b ∷ c ∷ d ∷ [])) top ∙ sym (rw (no, le-ltb t 256 g, le-ltb t 65536 h, le-ltb t 16777216 k)))
    (cases_lt t 16777216))
    (cases_lt t 65536))
    (cases_lt t 256)
