-- The worked examples of a sale, each with what it gives.
use Rattle.std.specs.Prelude.{◌≡◌, ℕ, List, [], ◌∷◌, Some, None, Ok, Err, Option, Result}
use Rattle.std.specs.List.{AllByRecursion}
use Rattle.keyed.specs.declared.record.Record.{Record}
use Rattle.store.specs.Map.{Map, empty, changed}
use Rattle.decision.specs.declared.cryptogram.Cryptogram.{Cryptogram}
use Rattle.decision.specs.declared.cryptogram.Cryptogram.TheVariants.{Aac, Tc, Arqc}
use Rattle.decision.specs.declared.cryptogram.WrongCryptogram.{WrongCryptogram}
use Rattle.decision.specs.Cryptograms.{answered}
use Rattle.decision.specs.Decision.{results, decided}
use Rattle.afl.specs.Afl.{record_at, records_of}
use Rattle.dol.specs.Dol.{dol_data}
use Rattle.commands.specs.declared.instruction.CommandFault.{CommandFault}
use Rattle.commands.specs.declared.instruction.CommandFault.TheVariants.{List as FaultyList}
use Rattle.commands.specs.Commands.{read_record, options_command, generate_command}
use Rattle.tlv.specs.Worked.{Worked as TextsWorked}

-- A row: what is given, and then what comes of it.
pub data Row : Type 0 where
  -- what is held, the most data, a list, and its data
  fills : Map → ℕ → List ℕ → Option (List ℕ) → Row
  -- an AFL and its records
  records : List ℕ → Option (List Record) → Row
  -- a record and the command that reads it
  reads : Record → List ℕ → Row
  -- what is held, and GET PROCESSING OPTIONS
  options : Map → Result (List ℕ) CommandFault → Row
  -- amount, floor limit and TVR
  verifies : List ℕ → List ℕ → List ℕ → Row
  -- TVR, TAC Denial, TAC Online, Terminal Type, and the decision
  decides : List ℕ → List ℕ → List ℕ → ℕ → Cryptogram → Row
  -- what is asked for, what is held, and GENERATE AC
  generates : Cryptogram → Map → Result (List ℕ) CommandFault → Row
  -- what was requested, the Cryptogram Information Data, and what is given
  gives : Cryptogram → ℕ → Result Cryptogram WrongCryptogram → Row

abbrev pub Holds : Row → Type 0
Holds (fills held limit dol ds) = dol_data held limit dol ≡ ds
Holds (records afl rs) = records_of afl ≡ rs
Holds (reads r bs) = read_record r ≡ bs
Holds (options held bs) = options_command held ≡ bs
Holds (verifies amount floor tvr) = results amount floor ≡ tvr
Holds (decides tvr denial online terminal kind) = decided tvr denial online terminal ≡ kind
Holds (generates kind held bs) = generate_command kind held ≡ bs
Holds (gives requested information given) = answered requested information ≡ given

-- 12.50 and 10.00
abbrev pub amount : List ℕ
amount = 0x00 ∷ 0x00 ∷ 0x00 ∷ 0x00 ∷ 0x12 ∷ 0x50 ∷ []

abbrev pub floor : List ℕ
floor = 0x00 ∷ 0x00 ∷ 0x00 ∷ 0x00 ∷ 0x10 ∷ 0x00 ∷ []

abbrev pub zeros : List ℕ
zeros = 0x00 ∷ 0x00 ∷ 0x00 ∷ 0x00 ∷ 0x00 ∷ []

abbrev pub above_floor : List ℕ
above_floor = 0x00 ∷ 0x00 ∷ 0x00 ∷ 0x80 ∷ 0x00 ∷ []

-- the amount, an account number and Default CDOL1 are held
abbrev pub sale : Map
sale = changed (changed (changed empty 0x9F02 (Some amount)) 0x5A (Some (0x12 ∷ 0x34 ∷ 0x5F ∷ []))) 0xDF_856C (Some (0x9F ∷ 0x02 ∷ 0x06 ∷ 0x95 ∷ 0x05 ∷ []))

abbrev pub holding : ℕ → List ℕ → Map
holding t v = changed sale t (Some v)

abbrev pub table : List Row
table =
    -- the amount at four bytes and at eight, and an account number at five
    fills sale 255 (0x9F ∷ 0x02 ∷ 0x04 ∷ []) (Some (0x00 ∷ 0x00 ∷ 0x12 ∷ 0x50 ∷ []))
    ∷ fills sale 255 (0x9F ∷ 0x02 ∷ 0x08 ∷ []) (Some (0x00 ∷ 0x00 ∷ 0x00 ∷ 0x00 ∷ 0x00 ∷ 0x00 ∷ 0x12 ∷ 0x50 ∷ []))
    ∷ fills sale 255 (0x5A ∷ 0x05 ∷ []) (Some (0x12 ∷ 0x34 ∷ 0x5F ∷ 0xFF ∷ 0xFF ∷ []))
    -- a tag that is not held, an unknown one and a constructed one
    ∷ fills sale 255 (0x9F ∷ 0x37 ∷ 0x02 ∷ 0x9F ∷ 0x01 ∷ 0x01 ∷ 0x70 ∷ 0x01 ∷ []) (Some (0x00 ∷ 0x00 ∷ 0x00 ∷ 0x00 ∷ []))
    -- a tag cut short, no length byte, a third tag byte with bit 8 set, and one byte too many
    ∷ fills sale 255 (0x9F ∷ []) None
    ∷ fills sale 255 (0x9F ∷ 0x02 ∷ []) None
    ∷ fills sale 255 (0x9F ∷ 0x81 ∷ 0x81 ∷ 0x01 ∷ []) None
    ∷ fills sale 5 (0x9F ∷ 0x02 ∷ 0x06 ∷ []) None
    -- four records, and the last one's command
    ∷ records (0x08 ∷ 0x01 ∷ 0x03 ∷ 0x00 ∷ 0x10 ∷ 0x01 ∷ 0x01 ∷ 0x01 ∷ []) (Some (record_at 1 1 ∷ record_at 1 2 ∷ record_at 1 3 ∷ record_at 2 1 ∷ []))
    ∷ reads (record_at 2 1) (0x00 ∷ 0xB2 ∷ 0x01 ∷ 0x14 ∷ 0x00 ∷ [])
    -- a record twice
    ∷ records (0x08 ∷ 0x01 ∷ 0x03 ∷ 0x00 ∷ 0x08 ∷ 0x03 ∷ 0x03 ∷ 0x00 ∷ []) None
    -- no PDOL, an empty one, and one that asks for the amount
    ∷ options sale (Ok (0x80 ∷ 0xA8 ∷ 0x00 ∷ 0x00 ∷ 0x02 ∷ 0x83 ∷ 0x00 ∷ 0x00 ∷ []))
    ∷ options (holding 0x9F38 []) (Ok (0x80 ∷ 0xA8 ∷ 0x00 ∷ 0x00 ∷ 0x02 ∷ 0x83 ∷ 0x00 ∷ 0x00 ∷ []))
    ∷ options (holding 0x9F38 (0x9F ∷ 0x02 ∷ 0x06 ∷ [])) (Ok (0x80 ∷ 0xA8 ∷ 0x00 ∷ 0x00 ∷ 0x08 ∷ 0x83 ∷ 0x06 ∷ 0x00 ∷ 0x00 ∷ 0x00 ∷ 0x00 ∷ 0x12 ∷ 0x50 ∷ 0x00 ∷ []))
    -- the amount above the floor limit, and at it
    ∷ verifies amount floor above_floor
    ∷ verifies amount amount zeros
    -- the decision: denial, the two sorts of Terminal Type, and TAC Online
    ∷ decides above_floor above_floor zeros 0x23 Aac
    ∷ decides zeros above_floor zeros 0x21 Arqc
    ∷ decides above_floor zeros above_floor 0x26 Tc
    ∷ decides above_floor zeros above_floor 0x22 Arqc
    ∷ decides zeros above_floor above_floor 0x22 Tc
    -- Default CDOL1 serves where CDOL1 has no value, and a faulty list is told apart
    ∷ generates Arqc sale (Ok (0x80 ∷ 0xAE ∷ 0x80 ∷ 0x00 ∷ 0x0B ∷ 0x00 ∷ 0x00 ∷ 0x00 ∷ 0x00 ∷ 0x12 ∷ 0x50 ∷ 0x00 ∷ 0x00 ∷ 0x00 ∷ 0x00 ∷ 0x00 ∷ 0x00 ∷ []))
    ∷ generates Tc (holding 0x8C (0x9F ∷ [])) (Err FaultyList)
    -- an offline approval that was not asked for, and one that was
    ∷ gives Arqc 0x40 (Err (record {}))
    ∷ gives Tc 0x40 (Ok Tc)
    ∷ []

-- The worked texts hold, and each row of the table.
abbrev pub Worked : Type 0
Worked = TextsWorked × AllByRecursion Holds table
