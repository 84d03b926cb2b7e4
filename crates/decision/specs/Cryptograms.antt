-- The kinds of cryptogram: their numbers, what a card's answer says, and whether it stands.
use Rattle.std.specs.Prelude.{ℕ, ◌*◌, ◌/◌, Bool, true, false, cond, Some, None, Ok, Err, Option, Result, ◌==◌}
use Rattle.decision.specs.declared.cryptogram.Cryptogram.{Cryptogram}
use Rattle.decision.specs.declared.cryptogram.Cryptogram.TheVariants.{Aac, Tc, Arqc}
use Rattle.decision.specs.declared.cryptogram.WrongCryptogram.{WrongCryptogram}

-- the number of each kind: P1 of GENERATE AC
abbrev pub parameter : Cryptogram → ℕ
parameter Aac = 0x00
parameter Tc = 0x40
parameter Arqc = 0x80

-- the kind that the Cryptogram Information Data names: the top two bits are those of its number
abbrev pub informed : ℕ → Option Cryptogram
informed information =
    let bits = information / 64 * 64 in
    cond (bits == parameter Aac) (Some Aac)
    (cond (bits == parameter Tc) (Some Tc)
    (cond (bits == parameter Arqc) (Some Arqc) None))

-- AAC always stands, TC if TC was requested, ARQC if TC or ARQC was
abbrev pub stands : Cryptogram → Cryptogram → Bool
stands requested Aac = true
stands Aac Tc = false
stands Tc Tc = true
stands Arqc Tc = false
stands Aac Arqc = false
stands Tc Arqc = true
stands Arqc Arqc = true

-- what a card gives where a kind was requested; what names no kind, or does not stand, is a fault
abbrev pub accepted : Cryptogram → Option Cryptogram → Result Cryptogram WrongCryptogram
accepted requested None = Err (record {})
accepted requested (Some given) = cond (stands requested given) (Ok given) (Err (record {}))

abbrev pub answered : Cryptogram → ℕ → Result Cryptogram WrongCryptogram
answered requested information = accepted requested (informed information)
