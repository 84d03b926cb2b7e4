-- The Terminal Verification Results, and which cryptogram the reader asks for.
use Rattle.std.specs.Prelude.{ℕ, Bool, false, cond, not, ◌||◌, List, [], ◌∷◌, ◌==◌, bit_and, nat_lt}
use Rattle.decision.specs.declared.cryptogram.Cryptogram.{Cryptogram}
use Rattle.decision.specs.declared.cryptogram.Cryptogram.TheVariants.{Aac, Tc, Arqc}
use Rattle.decision.specs.Amounts.{decimal}

-- five bytes: bit 8 of byte 4 is set exactly if the amount exceeds the floor limit, and no other bit
abbrev pub results : List ℕ → List ℕ → List ℕ
results amount floor = 0 ∷ 0 ∷ 0 ∷ cond (nat_lt (decimal floor) (decimal amount)) 0x80 0 ∷ 0 ∷ []

-- some bit is set in both, at the same place
abbrev pub share_bit : List ℕ → List ℕ → Bool
share_bit [] bs = false
share_bit (a ∷ more) [] = false
share_bit (a ∷ more) (b ∷ bs) = not (bit_and a b == 0) || share_bit more bs

-- the Terminal Types that can only go online
abbrev pub online_only : ℕ → Bool
online_only t = t == 0x11 || (t == 0x21 || (t == 0x14 || (t == 0x24 || t == 0x34)))

-- the Terminal Types that cannot go online
abbrev pub offline_only : ℕ → Bool
offline_only t = t == 0x23 || (t == 0x26 || (t == 0x36 || (t == 0x13 || t == 0x16)))

-- the first rule that applies decides
abbrev pub decided : List ℕ → List ℕ → List ℕ → ℕ → Cryptogram
decided tvr denial online terminal =
    cond (share_bit tvr denial) Aac
    (cond (online_only terminal) Arqc
    (cond (offline_only terminal) Tc
    (cond (share_bit tvr online) Arqc Tc)))
