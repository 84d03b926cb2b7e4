-- Which objects move a byte of a command.
use Rattle.std.specs.Prelude.{◌≡◌, ℕ, cond, List}
use Rattle.store.specs.Map.{Map}
use Rattle.decision.specs.declared.cryptogram.Cryptogram.{Cryptogram}
use Rattle.dol.specs.Laws.{Agree}
use Rattle.commands.specs.Commands.{bytes, serves, options_command, generate_command}

-- GET PROCESSING OPTIONS is the same whatever is held under tags other than the PDOL and those that the PDOL names.
abbrev pub OptionsNamed : Map → Type 0
OptionsNamed held =
    (other : Map) → held 0x9F38 ≡ other 0x9F38 → Agree (bytes (held 0x9F38)) held other → options_command held ≡ options_command other

-- the list that serves for GENERATE AC
abbrev pub serving : Map → List ℕ
serving held = cond (serves held) (bytes (held 0x8C)) (bytes (held 0xDF_856C))

-- GENERATE AC is the same whatever is held under tags other than CDOL1, Default CDOL1 and those that the serving list
-- names.
abbrev pub GenerateNamed : Cryptogram → Map → Type 0
GenerateNamed kind held =
    (other : Map) → held 0x8C ≡ other 0x8C → held 0xDF_856C ≡ other 0xDF_856C → Agree (serving held) held other
    → generate_command kind held ≡ generate_command kind other
