-- The bytes of the commands.
use Rattle.std.specs.Prelude.{ℕ, ◌+◌, ◌*◌, ◌/◌, ◌%◌, Bool, cond, not, List, [], ◌∷◌, ◌++◌, length, Some, None, Ok, Err, Option, Result, ◌==◌, nat_lt}
use Rattle.keyed.specs.declared.record.Record.{Record}
use Rattle.store.specs.Map.{Map}
use Rattle.decision.specs.declared.cryptogram.Cryptogram.{Cryptogram}
use Rattle.decision.specs.Cryptograms.{parameter}
use Rattle.dol.specs.Dol.{dol_data}
use Rattle.commands.specs.declared.instruction.Instruction.{Instruction}
use Rattle.commands.specs.declared.instruction.Instruction.TheVariants.{ReadRecord, GetProcessingOptions, GenerateAc}
use Rattle.commands.specs.declared.instruction.CommandFault.{CommandFault}
use Rattle.commands.specs.declared.instruction.CommandFault.TheVariants.{List as FaultyList, DefaultList}

-- the number of each command: its class and its instruction byte
abbrev pub code : Instruction → ℕ
code ReadRecord = 0x00B2
code GetProcessingOptions = 0x80A8
code GenerateAc = 0x80AE

-- those two bytes, and what follows
abbrev pub begun : Instruction → List ℕ → List ℕ
begun i rest = code i / 256 ∷ code i % 256 ∷ rest

-- P1 is the record's number, P2 its SFI times 8 and 4, in one byte
abbrev pub read_record : Record → List ℕ
read_record r = begun ReadRecord (r.number ∷ (r.sfi * 8 + 4) % 256 ∷ 0 ∷ [])

-- a length in its shortest form
abbrev pub length_bytes : ℕ → List ℕ
length_bytes n = cond (nat_lt n 128) (n ∷ []) (0x81 ∷ n ∷ [])

-- the object '83' that the command data of GET PROCESSING OPTIONS is
abbrev pub options_object : List ℕ → List ℕ
options_object ds = 0x83 ∷ (length_bytes (length ds) ++ ds)

-- P1 and P2 are '00'; then the length of the object, the object, and '00'
unfoldable pub get_options : List ℕ → List ℕ
get_options ds = begun GetProcessingOptions (0 ∷ 0 ∷ length (options_object ds) ∷ (options_object ds ++ 0 ∷ []))

-- P1 is the cryptogram's parameter, P2 '00'; then the length of the data, the data, and '00'. With no data its length
-- is dropped.
abbrev pub generate_with : ℕ → List ℕ → List ℕ
generate_with p [] = begun GenerateAc (p ∷ 0 ∷ 0 ∷ [])
generate_with p (d ∷ ds) = begun GenerateAc (p ∷ 0 ∷ length (d ∷ ds) ∷ ((d ∷ ds) ++ 0 ∷ []))

unfoldable pub generate_ac : Cryptogram → List ℕ → List ℕ
generate_ac kind ds = generate_with (parameter kind) ds

-- the bytes of a value, none where nothing is held
abbrev pub bytes : Option (List ℕ) → List ℕ
bytes None = []
bytes (Some v) = v

-- a command with the data of a list, or the fault
abbrev pub on_data : CommandFault → (List ℕ → List ℕ) → Option (List ℕ) → Result (List ℕ) CommandFault
on_data fault command None = Err fault
on_data fault command (Some ds) = Ok (command ds)

-- GET PROCESSING OPTIONS, with the data of the held PDOL: at most 252 bytes, and none where the PDOL has no value
unfoldable pub options_command : Map → Result (List ℕ) CommandFault
options_command held = on_data FaultyList get_options (dol_data held 252 (bytes (held 0x9F38)))

-- GENERATE AC for a kind, with the data of the held CDOL1 if it has a value, and else of Default CDOL1: at most 255 bytes
abbrev pub serves : Map → Bool
serves held = not (length (bytes (held 0x8C)) == 0)

unfoldable pub generate_command : Cryptogram → Map → Result (List ℕ) CommandFault
generate_command kind held =
    cond (serves held)
    (on_data FaultyList (generate_ac kind) (dol_data held 255 (bytes (held 0x8C))))
    (on_data DefaultList (generate_ac kind) (dol_data held 255 (bytes (held 0xDF_856C))))
