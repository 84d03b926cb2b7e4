-- Only the lists and the objects that they name move a byte of a command.
use Rattle.std.proofs.Common.{◌≡◌, ℕ, Bool, true, false, cond, not, eqb, List, length, Result, refl, ap, ◌∙◌}
use Rattle.store.specs.Map.{Map}
use Rattle.decision.specs.declared.cryptogram.Cryptogram.{Cryptogram}
use Rattle.dol.specs.Dol.{dol_data}
use Rattle.dol.specs.Laws.{Agree}
use Rattle.dol.proofs.Lawful.{lawful}
use Rattle.commands.specs.declared.instruction.CommandFault.{CommandFault}
use Rattle.commands.specs.declared.instruction.CommandFault.TheVariants.{List as FaultyList, DefaultList}
use Rattle.commands.specs.Commands.{bytes, on_data, get_options, generate_ac, serves, options_command, generate_command}
use Rattle.commands.specs.Laws.{OptionsNamed, GenerateNamed}

pub options_named : (held : Map) → OptionsNamed held
unfolding options_command
options_named held other same agree =
    ap (on_data FaultyList get_options) ((lawful (bytes (held 0x9F38))).only_named 252 held other agree)
    ∙ ap (λ o. on_data FaultyList get_options (dol_data other 252 (bytes o))) same

pub generate_named : (kind : Cryptogram) (held : Map) → GenerateNamed kind held
unfolding generate_command
generate_named kind held other same default agree = by (serves held) refl agree ∙ ap (λ o. cond (not (eqb (length (bytes o)) 0)) (with FaultyList (bytes (other 0x8C))) (with DefaultList (bytes (other 0xDF_856C)))) same
  where
    with : CommandFault → List ℕ → Result (List ℕ) CommandFault
    with fault dol = on_data fault (generate_ac kind) (dol_data other 255 dol)

    by : (b : Bool) → serves held ≡ b → Agree (cond b (bytes (held 0x8C)) (bytes (held 0xDF_856C))) held other
        → cond b (on_data FaultyList (generate_ac kind) (dol_data held 255 (bytes (held 0x8C)))) (on_data DefaultList (generate_ac kind) (dol_data held 255 (bytes (held 0xDF_856C))))
        ≡ cond b (with FaultyList (bytes (other 0x8C))) (with DefaultList (bytes (other 0xDF_856C)))
    by true e a =
        ap (on_data FaultyList (generate_ac kind)) ((lawful (bytes (held 0x8C))).only_named 255 held other a)
        ∙ ap (λ o. with FaultyList (bytes o)) same
    by false e a =
        ap (on_data DefaultList (generate_ac kind)) ((lawful (bytes (held 0xDF_856C))).only_named 255 held other a)
        ∙ ap (λ o. with DefaultList (bytes o)) default
