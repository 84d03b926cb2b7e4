-- What an amount does to the decision.
use Rattle.std.specs.Prelude.{◌≡◌, ℕ, ◌≤◌, List}
use Rattle.decision.specs.declared.cryptogram.Cryptogram.TheVariants.{Aac, Tc}
use Rattle.decision.specs.Amounts.{decimal}
use Rattle.decision.specs.Decision.{results, decided}

-- An amount and a floor limit: whatever the codes and the Terminal Type, a higher amount is approved only where this
-- one is, and is declined wherever this one is. So no decision of AAC or ARQC becomes TC, and none of AAC becomes ARQC.
-- There is no further condition.
abbrev pub NeverMilder : List ℕ → List ℕ → Type 0
NeverMilder amount floor =
    (higher denial online : List ℕ) (terminal : ℕ) → decimal amount ≤ decimal higher →
    (decided (results higher floor) denial online terminal ≡ Tc → decided (results amount floor) denial online terminal ≡ Tc)
    × (decided (results amount floor) denial online terminal ≡ Aac → decided (results higher floor) denial online terminal ≡ Aac)
