-- Hexadecimal digits are characters of ASCII.
use Rattle.std.proofs.Common.{ℕ, suc, ◌/◌, ◌%◌, ◌<◌, List, [], ◌∷◌, get_or, IsUtf8, IsAscii, ⊎_elim, arith, lit<}
use Rattle.std.proofs.lemmas.Str.Ascii.{IsAscii-nil, IsAscii-cons}
use Rattle.std.proofs.lemmas.Str.{IsUtf8-from_ascii}
use Rattle.std.proofs.lemmas.Bool.{lt-ltb, le-ltb, cases_lt}
use Rattle.hexadecimal.specs.Digits.{digit, shown, written}

digit_ascii : (d : ℕ) → d < 16 → digit d < 128
digit_ascii d h = ⊎_elim (λ l. rw (lt-ltb d 10 l) (omega arith)) (λ l. rw (le-ltb d 10 l) (omega arith)) (cases_lt d 10)

shown_ascii : (bs : List ℕ) → ((i : ℕ) → get_or bs i 0 < 256) → IsAscii (shown bs)
shown_ascii [] h = IsAscii-nil
shown_ascii (b ∷ bs) h =
    let small = h 0 in
    IsAscii-cons (digit (b / 16)) (digit (b % 16) ∷ shown bs) (digit_ascii (b / 16) (omega arith))
    (IsAscii-cons (digit (b % 16)) (shown bs) (digit_ascii (b % 16) (omega arith)) (shown_ascii bs (λ i. h (suc i))))

written_ascii : (bs : List ℕ) → ((i : ℕ) → get_or bs i 0 < 256) → IsAscii (written bs)
written_ascii [] h = IsAscii-cons 45 [] (lit< tt) IsAscii-nil
written_ascii (b ∷ bs) h = shown_ascii (b ∷ bs) h

pub written_utf8 : (bs : List ℕ) → ((i : ℕ) → get_or bs i 0 < 256) → IsUtf8 (written bs)
written_utf8 bs h = IsUtf8-from_ascii (written bs) (written_ascii bs h)
