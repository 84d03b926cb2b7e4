-- Words of a line that stand for bytes and tags.
use Rattle.std.specs.Prelude.{ℕ, ◌+◌, ◌*◌, ◌/◌, ◌%◌, Bool, cond, ◌&&◌, List, [], ◌∷◌, length, Some, None, codes, Option, ◌==◌, nat_lt, slice_index}
use Rattle.hexadecimal.specs.Digits.{bytes_of, shown}
use Rattle.decision.specs.declared.cryptogram.Cryptogram.{Cryptogram}
use Rattle.decision.specs.declared.cryptogram.Cryptogram.TheVariants.{Aac, Tc, Arqc}

-- the word that is a dash
abbrev pub dash : List ℕ → Bool
dash w = length w == 1 && slice_index w 0 == 45

-- the bytes that a word stands for: no bytes for a dash, else hexadecimal
abbrev pub word_bytes : List ℕ → Option (List ℕ)
word_bytes w = cond (dash w) (Some []) (bytes_of w)

-- the tag of one to three bytes, the first the highest
abbrev pub tag_in : Option (List ℕ) → Option ℕ
tag_in None = None
tag_in (Some []) = None
tag_in (Some (a ∷ [])) = Some a
tag_in (Some (a ∷ b ∷ [])) = Some (a * 256 + b)
tag_in (Some (a ∷ b ∷ c ∷ [])) = Some (a * 65536 + b * 256 + c)
tag_in (Some (a ∷ b ∷ c ∷ d ∷ ds)) = None

-- the bytes, if there are n of them
abbrev pub sized : ℕ → Option (List ℕ) → Option (List ℕ)
sized n None = None
sized n (Some bs) = cond (length bs == n) (Some bs) None

-- the one byte
abbrev pub one_byte : Option (List ℕ) → Option ℕ
one_byte None = None
one_byte (Some []) = None
one_byte (Some (b ∷ [])) = Some b
one_byte (Some (b ∷ c ∷ cs)) = None

-- the word for a kind of cryptogram
abbrev pub kind_word : Cryptogram → List ℕ
kind_word Aac = codes "AAC"
kind_word Tc = codes "TC"
kind_word Arqc = codes "ARQC"

-- the bytes of a tag, the highest first, without zeros in front
abbrev pub tag_bytes : ℕ → List ℕ
tag_bytes t =
    cond (nat_lt t 256) (t % 256 ∷ [])
    (cond (nat_lt t 65536) (t / 256 % 256 ∷ t % 256 ∷ [])
    (cond (nat_lt t 16777216) (t / 65536 % 256 ∷ t / 256 % 256 ∷ t % 256 ∷ [])
    (t / 16777216 ∷ t / 65536 % 256 ∷ t / 256 % 256 ∷ t % 256 ∷ [])))

-- a tag as a word: its bytes, and '0' for none
abbrev pub tag_word : ℕ → List ℕ
tag_word t = cond (t == 0) (codes "0") (shown (tag_bytes t))
