-- Whole runs and single calls, with their bytes: what is replied, and where it leaves the reader.
use Rattle.std.specs.Prelude.{◌≡◌, ℕ, List, [], ◌∷◌, ◌++◌, take, replicate}
use Rattle.std.specs.List.{AllByRecursion}
use Rattle.store.specs.Map.{empty}
use Rattle.keeping.specs.declared.shares.Shares.{Shares}
use Rattle.run.specs.State.{Meaning, closed}
use Rattle.run.specs.Calls.{Call, write, begin, answer, link_fault, stop, clear, Done, open_over, step, outcome_read}
use Rattle.runs.specs.Shown.{Shown, takes, hands, ends, refuses, Seen, seen, shown, outcome_asked}

-- A reader, some calls in their order and what they show; one call that was made, and its reply; or a reader that is asked
-- for its outcome, and what it answers.
pub data Row : Type 0 where
  sees : Meaning → List Call → Seen → Row
  replies : Done → Shown → Row
  tells : Meaning → Shown → Row

-- the definitions give what the row says
abbrev pub Holds : Row → Type 0
Holds (sees m cs s) = seen m cs ≡ s
Holds (replies d s) = shown d.reply ≡ s
Holds (tells m s) = outcome_asked (outcome_read m) ≡ s

-- the amount 1250 and an Unpredictable Number
abbrev pub amount1250 : List ℕ
amount1250 = 0x9F ∷ 0x02 ∷ 0x06 ∷ 0x00 ∷ 0x00 ∷ 0x00 ∷ 0x00 ∷ 0x12 ∷ 0x50 ∷ 0x9F ∷ 0x37 ∷ 0x04 ∷ 0x01 ∷ 0x02 ∷ 0x03 ∷ 0x04 ∷ []

-- an FCI with an AID and an empty label
abbrev pub fci : List ℕ
fci = 0x6F ∷ 0x0D ∷ 0x84 ∷ 0x07 ∷ 0xA0 ∷ 0x00 ∷ 0x00 ∷ 0x00 ∷ 0x04 ∷ 0x10 ∷ 0x10 ∷ 0xA5 ∷ 0x02 ∷ 0x50 ∷ 0x00 ∷ []

-- GPO: AFL of one record
abbrev pub one_record : List ℕ
one_record = 0x77 ∷ 0x0A ∷ 0x82 ∷ 0x02 ∷ 0x00 ∷ 0x00 ∷ 0x94 ∷ 0x04 ∷ 0x08 ∷ 0x01 ∷ 0x01 ∷ 0x00 ∷ 0x90 ∷ 0x00 ∷ []

-- GPO: AFL of records 1 and 2 of file 1 and record 1 of file 2
abbrev pub three_records : List ℕ
three_records = 0x77 ∷ 0x0E ∷ 0x82 ∷ 0x02 ∷ 0x00 ∷ 0x00 ∷ 0x94 ∷ 0x08 ∷ 0x08 ∷ 0x01 ∷ 0x02 ∷ 0x00 ∷ 0x10 ∷ 0x01 ∷ 0x01 ∷ 0x00 ∷ 0x90 ∷ 0x00 ∷ []

-- a record with PAN and expiry
abbrev pub pan_record : List ℕ
pan_record = 0x70 ∷ 0x0B ∷ 0x5A ∷ 0x03 ∷ 0x12 ∷ 0x34 ∷ 0x5F ∷ 0x5F ∷ 0x24 ∷ 0x03 ∷ 0x30 ∷ 0x12 ∷ 0x31 ∷ 0x90 ∷ 0x00 ∷ []

-- a TC
abbrev pub gives_tc : List ℕ
gives_tc = 0x77 ∷ 0x14 ∷ 0x9F ∷ 0x27 ∷ 0x01 ∷ 0x40 ∷ 0x9F ∷ 0x36 ∷ 0x02 ∷ 0x00 ∷ 0x01 ∷ 0x9F ∷ 0x26 ∷ 0x08 ∷ 0x00 ∷ 0x00 ∷ 0x00 ∷ 0x00 ∷ 0x00 ∷ 0x00 ∷ 0x00 ∷ 0x00 ∷ 0x90 ∷ 0x00 ∷ []

-- an ARQC
abbrev pub gives_arqc : List ℕ
gives_arqc = 0x77 ∷ 0x14 ∷ 0x9F ∷ 0x27 ∷ 0x01 ∷ 0x80 ∷ 0x9F ∷ 0x36 ∷ 0x02 ∷ 0x00 ∷ 0x01 ∷ 0x9F ∷ 0x26 ∷ 0x08 ∷ 0x00 ∷ 0x00 ∷ 0x00 ∷ 0x00 ∷ 0x00 ∷ 0x00 ∷ 0x00 ∷ 0x00 ∷ 0x90 ∷ 0x00 ∷ []

-- an AAC
abbrev pub gives_aac : List ℕ
gives_aac = 0x77 ∷ 0x14 ∷ 0x9F ∷ 0x27 ∷ 0x01 ∷ 0x00 ∷ 0x9F ∷ 0x36 ∷ 0x02 ∷ 0x00 ∷ 0x01 ∷ 0x9F ∷ 0x26 ∷ 0x08 ∷ 0x00 ∷ 0x00 ∷ 0x00 ∷ 0x00 ∷ 0x00 ∷ 0x00 ∷ 0x00 ∷ 0x00 ∷ 0x90 ∷ 0x00 ∷ []

-- GET PROCESSING OPTIONS without data
abbrev pub ask_options : List ℕ
ask_options = 0x80 ∷ 0xA8 ∷ 0x00 ∷ 0x00 ∷ 0x02 ∷ 0x83 ∷ 0x00 ∷ 0x00 ∷ []

-- READ RECORD of record 1 of file 1
abbrev pub read_first : List ℕ
read_first = 0x00 ∷ 0xB2 ∷ 0x01 ∷ 0x0C ∷ 0x00 ∷ []

-- GENERATE AC for a TC, with amount and Unpredictable Number
abbrev pub ask_tc : List ℕ
ask_tc = 0x80 ∷ 0xAE ∷ 0x40 ∷ 0x00 ∷ 0x0A ∷ 0x00 ∷ 0x00 ∷ 0x00 ∷ 0x00 ∷ 0x12 ∷ 0x50 ∷ 0x01 ∷ 0x02 ∷ 0x03 ∷ 0x04 ∷ 0x00 ∷ []

-- GENERATE AC for an ARQC
abbrev pub ask_arqc : List ℕ
ask_arqc = 0x80 ∷ 0xAE ∷ 0x80 ∷ 0x00 ∷ 0x0A ∷ 0x00 ∷ 0x00 ∷ 0x00 ∷ 0x00 ∷ 0x12 ∷ 0x50 ∷ 0x01 ∷ 0x02 ∷ 0x03 ∷ 0x04 ∷ 0x00 ∷ []

-- GENERATE AC for an AAC
abbrev pub ask_aac : List ℕ
ask_aac = 0x80 ∷ 0xAE ∷ 0x00 ∷ 0x00 ∷ 0x0A ∷ 0x00 ∷ 0x00 ∷ 0x00 ∷ 0x00 ∷ 0x12 ∷ 0x50 ∷ 0x01 ∷ 0x02 ∷ 0x03 ∷ 0x04 ∷ 0x00 ∷ []

-- floor limit 10000, no TAC bit, a Default CDOL1 for amount and Unpredictable Number, Terminal Type 22
abbrev pub config : List ℕ
config = 0xDF ∷ 0x81 ∷ 0x21 ∷ 0x05 ∷ 0x00 ∷ 0x00 ∷ 0x00 ∷ 0x00 ∷ 0x00 ∷ 0xDF ∷ 0x81 ∷ 0x22 ∷ 0x05 ∷ 0x00 ∷ 0x00 ∷ 0x00 ∷ 0x00 ∷ 0x00 ∷ 0xDF ∷ 0x81 ∷ 0x23 ∷ 0x06 ∷ 0x00 ∷ 0x00 ∷ 0x00 ∷ 0x01 ∷ 0x00 ∷ 0x00 ∷ 0xDF ∷ 0x85 ∷ 0x6C ∷ 0x06 ∷ 0x9F ∷ 0x02 ∷ 0x06 ∷ 0x9F ∷ 0x37 ∷ 0x04 ∷ 0x9F ∷ 0x35 ∷ 0x01 ∷ 0x22 ∷ []

-- 300 bytes for each
abbrev pub shares : Shares
shares = record { configuration = 300; terminal = 300; card = 300 }

-- a reader before its opening, over an empty store for so many objects and bytes
abbrev pub with_limits : ℕ → ℕ → Meaning
with_limits objects bytes = closed (record { objects = objects; bytes = bytes }) empty

-- a store for 64 objects and 1000 bytes
abbrev pub unopened : Meaning
unopened = with_limits 64 1000

-- a reader that was opened over it
abbrev pub opened : Meaning
opened = (open_over 0 unopened shares config 64).after

-- The end of a row is the result and, for result 4, L1, L2, phase, SFI, record number, missing tag, and the object fault
-- carried: 5 or 6, kind, place and tag.
abbrev pub table : List Row
table =
    -- an approval; three records are read, one after the other
    sees opened
    (write amount1250 64 ∷ begin fci 261 64 ∷ answer three_records 261 64 ∷ answer (0x70 ∷ 0x05 ∷ 0x9F ∷ 0x07 ∷ 0x02 ∷ 0xFF ∷ 0x00 ∷ 0x90 ∷ 0x00 ∷ []) 261 64 ∷ answer pan_record 261 64 ∷ answer (0x70 ∷ 0x00 ∷ 0x90 ∷ 0x00 ∷ []) 261 64 ∷ answer gives_tc 261 64 ∷ [])
    (record { replies = takes ∷ hands ask_options ∷ hands read_first ∷ hands (0x00 ∷ 0xB2 ∷ 0x02 ∷ 0x0C ∷ 0x00 ∷ []) ∷ hands (0x00 ∷ 0xB2 ∷ 0x01 ∷ 0x14 ∷ 0x00 ∷ []) ∷ hands ask_tc ∷ ends ∷ []; phase = 40; count = 5; end = (1 ∷ []); tvr = (0 ∷ 0 ∷ 0 ∷ 0 ∷ 0 ∷ []); indication = (0 ∷ 0 ∷ 0 ∷ 0 ∷ 0 ∷ 0 ∷ []); floor = (0x00 ∷ 0x00 ∷ 0x00 ∷ 0x01 ∷ 0x00 ∷ 0x00 ∷ []) })
    -- an amount above the floor limit, with that bit in TAC Online: online
    ∷ sees (open_over 0 unopened shares (0xDF ∷ 0x81 ∷ 0x21 ∷ 0x05 ∷ 0x00 ∷ 0x00 ∷ 0x00 ∷ 0x00 ∷ 0x00 ∷ 0xDF ∷ 0x81 ∷ 0x22 ∷ 0x05 ∷ 0x00 ∷ 0x00 ∷ 0x00 ∷ 0x80 ∷ 0x00 ∷ 0xDF ∷ 0x81 ∷ 0x23 ∷ 0x06 ∷ 0x00 ∷ 0x00 ∷ 0x00 ∷ 0x00 ∷ 0x10 ∷ 0x00 ∷ 0xDF ∷ 0x85 ∷ 0x6C ∷ 0x06 ∷ 0x9F ∷ 0x02 ∷ 0x06 ∷ 0x9F ∷ 0x37 ∷ 0x04 ∷ 0x9F ∷ 0x35 ∷ 0x01 ∷ 0x22 ∷ []) 64).after
    (write amount1250 64 ∷ begin fci 261 64 ∷ answer one_record 261 64 ∷ answer pan_record 261 64 ∷ answer gives_arqc 261 64 ∷ [])
    (record { replies = takes ∷ hands ask_options ∷ hands read_first ∷ hands ask_arqc ∷ ends ∷ []; phase = 40; count = 3; end = (3 ∷ []); tvr = (0 ∷ 0 ∷ 0 ∷ 128 ∷ 0 ∷ []); indication = (0 ∷ 0 ∷ 0 ∷ 0 ∷ 0 ∷ 0 ∷ []); floor = (0x00 ∷ 0x00 ∷ 0x00 ∷ 0x00 ∷ 0x10 ∷ 0x00 ∷ []) })
    -- with that bit in TAC Denial: the reader asks for a decline
    ∷ sees (open_over 0 unopened shares (0xDF ∷ 0x81 ∷ 0x21 ∷ 0x05 ∷ 0x00 ∷ 0x00 ∷ 0x00 ∷ 0x80 ∷ 0x00 ∷ 0xDF ∷ 0x81 ∷ 0x22 ∷ 0x05 ∷ 0x00 ∷ 0x00 ∷ 0x00 ∷ 0x00 ∷ 0x00 ∷ 0xDF ∷ 0x81 ∷ 0x23 ∷ 0x06 ∷ 0x00 ∷ 0x00 ∷ 0x00 ∷ 0x00 ∷ 0x10 ∷ 0x00 ∷ 0xDF ∷ 0x85 ∷ 0x6C ∷ 0x06 ∷ 0x9F ∷ 0x02 ∷ 0x06 ∷ 0x9F ∷ 0x37 ∷ 0x04 ∷ 0x9F ∷ 0x35 ∷ 0x01 ∷ 0x22 ∷ []) 64).after
    (write amount1250 64 ∷ begin fci 261 64 ∷ answer one_record 261 64 ∷ answer pan_record 261 64 ∷ answer gives_aac 261 64 ∷ [])
    (record { replies = takes ∷ hands ask_options ∷ hands read_first ∷ hands ask_aac ∷ ends ∷ []; phase = 40; count = 3; end = (2 ∷ []); tvr = (0 ∷ 0 ∷ 0 ∷ 128 ∷ 0 ∷ []); indication = (0 ∷ 0 ∷ 0 ∷ 0 ∷ 0 ∷ 0 ∷ []); floor = (0x00 ∷ 0x00 ∷ 0x00 ∷ 0x00 ∷ 0x10 ∷ 0x00 ∷ []) })
    -- the card declines where an approval was asked for
    ∷ sees opened
    (write amount1250 64 ∷ begin fci 261 64 ∷ answer one_record 261 64 ∷ answer pan_record 261 64 ∷ answer gives_aac 261 64 ∷ [])
    (record { replies = takes ∷ hands ask_options ∷ hands read_first ∷ hands ask_tc ∷ ends ∷ []; phase = 40; count = 3; end = (2 ∷ []); tvr = (0 ∷ 0 ∷ 0 ∷ 0 ∷ 0 ∷ []); indication = (0 ∷ 0 ∷ 0 ∷ 0 ∷ 0 ∷ 0 ∷ []); floor = (0x00 ∷ 0x00 ∷ 0x00 ∷ 0x01 ∷ 0x00 ∷ 0x00 ∷ []) })
    -- an amount equal to the floor limit, that bit in TAC Denial: approved
    ∷ sees (open_over 0 unopened shares (0xDF ∷ 0x81 ∷ 0x21 ∷ 0x05 ∷ 0x00 ∷ 0x00 ∷ 0x00 ∷ 0x80 ∷ 0x00 ∷ 0xDF ∷ 0x81 ∷ 0x22 ∷ 0x05 ∷ 0x00 ∷ 0x00 ∷ 0x00 ∷ 0x00 ∷ 0x00 ∷ 0xDF ∷ 0x81 ∷ 0x23 ∷ 0x06 ∷ 0x00 ∷ 0x00 ∷ 0x00 ∷ 0x00 ∷ 0x12 ∷ 0x50 ∷ 0xDF ∷ 0x85 ∷ 0x6C ∷ 0x06 ∷ 0x9F ∷ 0x02 ∷ 0x06 ∷ 0x9F ∷ 0x37 ∷ 0x04 ∷ 0x9F ∷ 0x35 ∷ 0x01 ∷ 0x22 ∷ []) 64).after
    (write amount1250 64 ∷ begin fci 261 64 ∷ answer one_record 261 64 ∷ answer pan_record 261 64 ∷ answer gives_tc 261 64 ∷ [])
    (record { replies = takes ∷ hands ask_options ∷ hands read_first ∷ hands ask_tc ∷ ends ∷ []; phase = 40; count = 3; end = (1 ∷ []); tvr = (0 ∷ 0 ∷ 0 ∷ 0 ∷ 0 ∷ []); indication = (0 ∷ 0 ∷ 0 ∷ 0 ∷ 0 ∷ 0 ∷ []); floor = (0x00 ∷ 0x00 ∷ 0x00 ∷ 0x00 ∷ 0x12 ∷ 0x50 ∷ []) })
    -- one below the floor limit: approved
    ∷ sees (open_over 0 unopened shares (0xDF ∷ 0x81 ∷ 0x21 ∷ 0x05 ∷ 0x00 ∷ 0x00 ∷ 0x00 ∷ 0x80 ∷ 0x00 ∷ 0xDF ∷ 0x81 ∷ 0x22 ∷ 0x05 ∷ 0x00 ∷ 0x00 ∷ 0x00 ∷ 0x00 ∷ 0x00 ∷ 0xDF ∷ 0x81 ∷ 0x23 ∷ 0x06 ∷ 0x00 ∷ 0x00 ∷ 0x00 ∷ 0x00 ∷ 0x12 ∷ 0x51 ∷ 0xDF ∷ 0x85 ∷ 0x6C ∷ 0x06 ∷ 0x9F ∷ 0x02 ∷ 0x06 ∷ 0x9F ∷ 0x37 ∷ 0x04 ∷ 0x9F ∷ 0x35 ∷ 0x01 ∷ 0x22 ∷ []) 64).after
    (write amount1250 64 ∷ begin fci 261 64 ∷ answer one_record 261 64 ∷ answer pan_record 261 64 ∷ answer gives_tc 261 64 ∷ [])
    (record { replies = takes ∷ hands ask_options ∷ hands read_first ∷ hands ask_tc ∷ ends ∷ []; phase = 40; count = 3; end = (1 ∷ []); tvr = (0 ∷ 0 ∷ 0 ∷ 0 ∷ 0 ∷ []); indication = (0 ∷ 0 ∷ 0 ∷ 0 ∷ 0 ∷ 0 ∷ []); floor = (0x00 ∷ 0x00 ∷ 0x00 ∷ 0x00 ∷ 0x12 ∷ 0x51 ∷ []) })
    -- one above the floor limit: declined
    ∷ sees (open_over 0 unopened shares (0xDF ∷ 0x81 ∷ 0x21 ∷ 0x05 ∷ 0x00 ∷ 0x00 ∷ 0x00 ∷ 0x80 ∷ 0x00 ∷ 0xDF ∷ 0x81 ∷ 0x22 ∷ 0x05 ∷ 0x00 ∷ 0x00 ∷ 0x00 ∷ 0x00 ∷ 0x00 ∷ 0xDF ∷ 0x81 ∷ 0x23 ∷ 0x06 ∷ 0x00 ∷ 0x00 ∷ 0x00 ∷ 0x00 ∷ 0x12 ∷ 0x49 ∷ 0xDF ∷ 0x85 ∷ 0x6C ∷ 0x06 ∷ 0x9F ∷ 0x02 ∷ 0x06 ∷ 0x9F ∷ 0x37 ∷ 0x04 ∷ 0x9F ∷ 0x35 ∷ 0x01 ∷ 0x22 ∷ []) 64).after
    (write amount1250 64 ∷ begin fci 261 64 ∷ answer one_record 261 64 ∷ answer pan_record 261 64 ∷ answer gives_aac 261 64 ∷ [])
    (record { replies = takes ∷ hands ask_options ∷ hands read_first ∷ hands ask_aac ∷ ends ∷ []; phase = 40; count = 3; end = (2 ∷ []); tvr = (0 ∷ 0 ∷ 0 ∷ 0x80 ∷ 0 ∷ []); indication = (0 ∷ 0 ∷ 0 ∷ 0 ∷ 0 ∷ 0 ∷ []); floor = (0x00 ∷ 0x00 ∷ 0x00 ∷ 0x00 ∷ 0x12 ∷ 0x49 ∷ []) })
    -- a Terminal Type that can only go online: an ARQC is asked for, and a TC does not stand
    ∷ sees (open_over 0 unopened shares (0xDF ∷ 0x81 ∷ 0x21 ∷ 0x05 ∷ 0x00 ∷ 0x00 ∷ 0x00 ∷ 0x00 ∷ 0x00 ∷ 0xDF ∷ 0x81 ∷ 0x22 ∷ 0x05 ∷ 0x00 ∷ 0x00 ∷ 0x00 ∷ 0x00 ∷ 0x00 ∷ 0xDF ∷ 0x81 ∷ 0x23 ∷ 0x06 ∷ 0x00 ∷ 0x00 ∷ 0x00 ∷ 0x01 ∷ 0x00 ∷ 0x00 ∷ 0xDF ∷ 0x85 ∷ 0x6C ∷ 0x06 ∷ 0x9F ∷ 0x02 ∷ 0x06 ∷ 0x9F ∷ 0x37 ∷ 0x04 ∷ 0x9F ∷ 0x35 ∷ 0x01 ∷ 0x14 ∷ []) 64).after
    (write amount1250 64 ∷ begin fci 261 64 ∷ answer one_record 261 64 ∷ answer pan_record 261 64 ∷ answer gives_tc 261 64 ∷ [])
    (record { replies = takes ∷ hands ask_options ∷ hands read_first ∷ hands ask_arqc ∷ ends ∷ []; phase = 40; count = 3; end = (4 ∷ 0 ∷ 6 ∷ 26 ∷ 0 ∷ 0 ∷ 0 ∷ 0 ∷ 0 ∷ 0 ∷ 0 ∷ []); tvr = (0 ∷ 0 ∷ 0 ∷ 0 ∷ 0 ∷ []); indication = (0 ∷ 6 ∷ 0 ∷ 0 ∷ 0 ∷ 0 ∷ []); floor = (0x00 ∷ 0x00 ∷ 0x00 ∷ 0x01 ∷ 0x00 ∷ 0x00 ∷ []) })
    -- a Terminal Type that cannot: a TC is asked for, and an ARQC stands
    ∷ sees (open_over 0 unopened shares (0xDF ∷ 0x81 ∷ 0x21 ∷ 0x05 ∷ 0x00 ∷ 0x00 ∷ 0x00 ∷ 0x00 ∷ 0x00 ∷ 0xDF ∷ 0x81 ∷ 0x22 ∷ 0x05 ∷ 0x00 ∷ 0x00 ∷ 0x00 ∷ 0x80 ∷ 0x00 ∷ 0xDF ∷ 0x81 ∷ 0x23 ∷ 0x06 ∷ 0x00 ∷ 0x00 ∷ 0x00 ∷ 0x00 ∷ 0x10 ∷ 0x00 ∷ 0xDF ∷ 0x85 ∷ 0x6C ∷ 0x06 ∷ 0x9F ∷ 0x02 ∷ 0x06 ∷ 0x9F ∷ 0x37 ∷ 0x04 ∷ 0x9F ∷ 0x35 ∷ 0x01 ∷ 0x26 ∷ []) 64).after
    (write amount1250 64 ∷ begin fci 261 64 ∷ answer one_record 261 64 ∷ answer pan_record 261 64 ∷ answer gives_arqc 261 64 ∷ [])
    (record { replies = takes ∷ hands ask_options ∷ hands read_first ∷ hands ask_tc ∷ ends ∷ []; phase = 40; count = 3; end = (3 ∷ []); tvr = (0 ∷ 0 ∷ 0 ∷ 128 ∷ 0 ∷ []); indication = (0 ∷ 0 ∷ 0 ∷ 0 ∷ 0 ∷ 0 ∷ []); floor = (0x00 ∷ 0x00 ∷ 0x00 ∷ 0x00 ∷ 0x10 ∷ 0x00 ∷ []) })
    -- our floor limit in a record: ends with 4 and L2 6, and the floor limit is unmoved
    ∷ sees opened
    (write amount1250 64 ∷ begin fci 261 64 ∷ answer one_record 261 64 ∷ answer (0x70 ∷ 0x15 ∷ 0x5A ∷ 0x03 ∷ 0x12 ∷ 0x34 ∷ 0x5F ∷ 0xDF ∷ 0x81 ∷ 0x23 ∷ 0x06 ∷ 0x99 ∷ 0x99 ∷ 0x99 ∷ 0x99 ∷ 0x99 ∷ 0x99 ∷ 0x5F ∷ 0x24 ∷ 0x03 ∷ 0x30 ∷ 0x12 ∷ 0x31 ∷ 0x90 ∷ 0x00 ∷ []) 261 64 ∷ [])
    (record { replies = takes ∷ hands ask_options ∷ hands read_first ∷ ends ∷ []; phase = 40; count = 2; end = (4 ∷ 0 ∷ 6 ∷ 22 ∷ 1 ∷ 1 ∷ 0 ∷ 6 ∷ 2 ∷ 7 ∷ 0xDF_8123 ∷ []); tvr = []; indication = (0 ∷ 6 ∷ 0 ∷ 0 ∷ 0 ∷ 0 ∷ []); floor = (0x00 ∷ 0x00 ∷ 0x00 ∷ 0x01 ∷ 0x00 ∷ 0x00 ∷ []) })
    -- an empty label in the FCI, and a label in a record: approved
    ∷ sees opened
    (write amount1250 64 ∷ begin (0x6F ∷ 0x02 ∷ 0x50 ∷ 0x00 ∷ []) 261 64 ∷ answer one_record 261 64 ∷ answer (0x70 ∷ 0x11 ∷ 0x50 ∷ 0x04 ∷ 0x43 ∷ 0x41 ∷ 0x52 ∷ 0x44 ∷ 0x5A ∷ 0x03 ∷ 0x12 ∷ 0x34 ∷ 0x5F ∷ 0x5F ∷ 0x24 ∷ 0x03 ∷ 0x30 ∷ 0x12 ∷ 0x31 ∷ 0x90 ∷ 0x00 ∷ []) 261 64 ∷ answer gives_tc 261 64 ∷ [])
    (record { replies = takes ∷ hands ask_options ∷ hands read_first ∷ hands ask_tc ∷ ends ∷ []; phase = 40; count = 3; end = (1 ∷ []); tvr = (0 ∷ 0 ∷ 0 ∷ 0 ∷ 0 ∷ []); indication = (0 ∷ 0 ∷ 0 ∷ 0 ∷ 0 ∷ 0 ∷ []); floor = (0x00 ∷ 0x00 ∷ 0x00 ∷ 0x01 ∷ 0x00 ∷ 0x00 ∷ []) })
    -- a label with a value in both: object fault 6
    ∷ sees opened
    (write amount1250 64 ∷ begin (0x6F ∷ 0x06 ∷ 0x50 ∷ 0x04 ∷ 0x43 ∷ 0x41 ∷ 0x52 ∷ 0x44 ∷ []) 261 64 ∷ answer one_record 261 64 ∷ answer (0x70 ∷ 0x11 ∷ 0x50 ∷ 0x04 ∷ 0x43 ∷ 0x41 ∷ 0x52 ∷ 0x44 ∷ 0x5A ∷ 0x03 ∷ 0x12 ∷ 0x34 ∷ 0x5F ∷ 0x5F ∷ 0x24 ∷ 0x03 ∷ 0x30 ∷ 0x12 ∷ 0x31 ∷ 0x90 ∷ 0x00 ∷ []) 261 64 ∷ [])
    (record { replies = takes ∷ hands ask_options ∷ hands read_first ∷ ends ∷ []; phase = 40; count = 2; end = (4 ∷ 0 ∷ 6 ∷ 22 ∷ 1 ∷ 1 ∷ 0 ∷ 6 ∷ 6 ∷ 2 ∷ 80 ∷ []); tvr = []; indication = (0 ∷ 6 ∷ 0 ∷ 0 ∷ 0 ∷ 0 ∷ []); floor = (0x00 ∷ 0x00 ∷ 0x00 ∷ 0x01 ∷ 0x00 ∷ 0x00 ∷ []) })
    -- a PDOL
    ∷ sees opened
    (write amount1250 64 ∷ begin (0x6F ∷ 0x17 ∷ 0x84 ∷ 0x07 ∷ 0xA0 ∷ 0x00 ∷ 0x00 ∷ 0x00 ∷ 0x04 ∷ 0x10 ∷ 0x10 ∷ 0xA5 ∷ 0x0C ∷ 0x50 ∷ 0x04 ∷ 0x43 ∷ 0x41 ∷ 0x52 ∷ 0x44 ∷ 0x9F ∷ 0x38 ∷ 0x03 ∷ 0x9F ∷ 0x02 ∷ 0x04 ∷ []) 261 64 ∷ [])
    (record { replies = takes ∷ hands (0x80 ∷ 0xA8 ∷ 0x00 ∷ 0x00 ∷ 0x06 ∷ 0x83 ∷ 0x04 ∷ 0x00 ∷ 0x00 ∷ 0x12 ∷ 0x50 ∷ 0x00 ∷ []) ∷ []; phase = 20; count = 1; end = []; tvr = []; indication = []; floor = (0x00 ∷ 0x00 ∷ 0x00 ∷ 0x01 ∷ 0x00 ∷ 0x00 ∷ []) })
    -- a CDOL1 of the card
    ∷ sees opened
    (write amount1250 64 ∷ begin fci 261 64 ∷ answer one_record 261 64 ∷ answer (0x70 ∷ 0x14 ∷ 0x5A ∷ 0x03 ∷ 0x12 ∷ 0x34 ∷ 0x5F ∷ 0x5F ∷ 0x24 ∷ 0x03 ∷ 0x30 ∷ 0x12 ∷ 0x31 ∷ 0x8C ∷ 0x07 ∷ 0x5A ∷ 0x05 ∷ 0x5F ∷ 0x34 ∷ 0x01 ∷ 0xC1 ∷ 0x05 ∷ 0x90 ∷ 0x00 ∷ []) 261 64 ∷ answer gives_tc 261 64 ∷ [])
    (record { replies = takes ∷ hands ask_options ∷ hands read_first ∷ hands (0x80 ∷ 0xAE ∷ 0x40 ∷ 0x00 ∷ 0x0B ∷ 0x12 ∷ 0x34 ∷ 0x5F ∷ 0xFF ∷ 0xFF ∷ 0x00 ∷ 0x00 ∷ 0x00 ∷ 0x00 ∷ 0x00 ∷ 0x00 ∷ 0x00 ∷ []) ∷ ends ∷ []; phase = 40; count = 3; end = (1 ∷ []); tvr = (0 ∷ 0 ∷ 0 ∷ 0 ∷ 0 ∷ []); indication = (0 ∷ 0 ∷ 0 ∷ 0 ∷ 0 ∷ 0 ∷ []); floor = (0x00 ∷ 0x00 ∷ 0x00 ∷ 0x01 ∷ 0x00 ∷ 0x00 ∷ []) })
    -- a GPO answer without AFL: L2 1 and tag 94
    ∷ sees opened
    (write amount1250 64 ∷ begin fci 261 64 ∷ answer (0x77 ∷ 0x04 ∷ 0x82 ∷ 0x02 ∷ 0x00 ∷ 0x00 ∷ 0x90 ∷ 0x00 ∷ []) 261 64 ∷ [])
    (record { replies = takes ∷ hands ask_options ∷ ends ∷ []; phase = 40; count = 1; end = (4 ∷ 0 ∷ 1 ∷ 20 ∷ 0 ∷ 0 ∷ 148 ∷ 0 ∷ 0 ∷ 0 ∷ 0 ∷ []); tvr = []; indication = (0 ∷ 1 ∷ 0 ∷ 0 ∷ 0 ∷ 0 ∷ []); floor = (0x00 ∷ 0x00 ∷ 0x00 ∷ 0x01 ∷ 0x00 ∷ 0x00 ∷ []) })
    -- after the last record no expiry: L2 1 and tag 5F24
    ∷ sees opened
    (write amount1250 64 ∷ begin fci 261 64 ∷ answer one_record 261 64 ∷ answer (0x70 ∷ 0x05 ∷ 0x5A ∷ 0x03 ∷ 0x12 ∷ 0x34 ∷ 0x5F ∷ 0x90 ∷ 0x00 ∷ []) 261 64 ∷ [])
    (record { replies = takes ∷ hands ask_options ∷ hands read_first ∷ ends ∷ []; phase = 40; count = 2; end = (4 ∷ 0 ∷ 1 ∷ 22 ∷ 1 ∷ 1 ∷ 24356 ∷ 0 ∷ 0 ∷ 0 ∷ 0 ∷ []); tvr = []; indication = (0 ∷ 1 ∷ 0 ∷ 0 ∷ 0 ∷ 0 ∷ []); floor = (0x00 ∷ 0x00 ∷ 0x00 ∷ 0x01 ∷ 0x00 ∷ 0x00 ∷ []) })
    -- a GENERATE AC answer without cryptogram: L2 1 and tag 9F26
    ∷ sees opened
    (write amount1250 64 ∷ begin fci 261 64 ∷ answer one_record 261 64 ∷ answer pan_record 261 64 ∷ answer (0x77 ∷ 0x09 ∷ 0x9F ∷ 0x27 ∷ 0x01 ∷ 0x40 ∷ 0x9F ∷ 0x36 ∷ 0x02 ∷ 0x00 ∷ 0x01 ∷ 0x90 ∷ 0x00 ∷ []) 261 64 ∷ [])
    (record { replies = takes ∷ hands ask_options ∷ hands read_first ∷ hands ask_tc ∷ ends ∷ []; phase = 40; count = 3; end = (4 ∷ 0 ∷ 1 ∷ 26 ∷ 0 ∷ 0 ∷ 40742 ∷ 0 ∷ 0 ∷ 0 ∷ 0 ∷ []); tvr = (0 ∷ 0 ∷ 0 ∷ 0 ∷ 0 ∷ []); indication = (0 ∷ 1 ∷ 0 ∷ 0 ∷ 0 ∷ 0 ∷ []); floor = (0x00 ∷ 0x00 ∷ 0x00 ∷ 0x01 ∷ 0x00 ∷ 0x00 ∷ []) })
    -- a status that is not 9000: L2 3, and the Error Indication shows it
    ∷ sees opened
    (write amount1250 64 ∷ begin fci 261 64 ∷ answer one_record 261 64 ∷ answer (0x70 ∷ 0x0B ∷ 0x5A ∷ 0x03 ∷ 0x12 ∷ 0x34 ∷ 0x5F ∷ 0x5F ∷ 0x24 ∷ 0x03 ∷ 0x30 ∷ 0x12 ∷ 0x31 ∷ 0x6A ∷ 0x82 ∷ []) 261 64 ∷ [])
    (record { replies = takes ∷ hands ask_options ∷ hands read_first ∷ ends ∷ []; phase = 40; count = 2; end = (4 ∷ 0 ∷ 3 ∷ 22 ∷ 1 ∷ 1 ∷ 0 ∷ 0 ∷ 0 ∷ 0 ∷ 0 ∷ []); tvr = []; indication = (0 ∷ 3 ∷ 0 ∷ 106 ∷ 130 ∷ 0 ∷ []); floor = (0x00 ∷ 0x00 ∷ 0x00 ∷ 0x01 ∷ 0x00 ∷ 0x00 ∷ []) })
    -- an answer of one byte: L2 4
    ∷ sees opened
    (write amount1250 64 ∷ begin fci 261 64 ∷ answer one_record 261 64 ∷ answer (0x90 ∷ []) 261 64 ∷ [])
    (record { replies = takes ∷ hands ask_options ∷ hands read_first ∷ ends ∷ []; phase = 40; count = 2; end = (4 ∷ 0 ∷ 4 ∷ 22 ∷ 1 ∷ 1 ∷ 0 ∷ 0 ∷ 0 ∷ 0 ∷ 0 ∷ []); tvr = []; indication = (0 ∷ 4 ∷ 0 ∷ 0 ∷ 0 ∷ 0 ∷ []); floor = (0x00 ∷ 0x00 ∷ 0x00 ∷ 0x01 ∷ 0x00 ∷ 0x00 ∷ []) })
    -- a text fault in the FCI: L2 4, with kind and place
    ∷ sees opened
    (write amount1250 64 ∷ begin (0x6F ∷ 0x04 ∷ 0x50 ∷ 0x03 ∷ 0x41 ∷ 0x42 ∷ []) 261 64 ∷ [])
    (record { replies = takes ∷ ends ∷ []; phase = 40; count = 0; end = (4 ∷ 0 ∷ 4 ∷ 0 ∷ 0 ∷ 0 ∷ 0 ∷ 5 ∷ 4 ∷ 2 ∷ 0 ∷ []); tvr = []; indication = (0 ∷ 4 ∷ 0 ∷ 0 ∷ 0 ∷ 0 ∷ []); floor = (0x00 ∷ 0x00 ∷ 0x00 ∷ 0x01 ∷ 0x00 ∷ 0x00 ∷ []) })
    -- an FCI that is not an object 6F: L2 4
    ∷ sees opened
    (write amount1250 64 ∷ begin (0x50 ∷ 0x04 ∷ 0x43 ∷ 0x41 ∷ 0x52 ∷ 0x44 ∷ []) 261 64 ∷ [])
    (record { replies = takes ∷ ends ∷ []; phase = 40; count = 0; end = (4 ∷ 0 ∷ 4 ∷ 0 ∷ 0 ∷ 0 ∷ 0 ∷ 0 ∷ 0 ∷ 0 ∷ 0 ∷ []); tvr = []; indication = (0 ∷ 4 ∷ 0 ∷ 0 ∷ 0 ∷ 0 ∷ []); floor = (0x00 ∷ 0x00 ∷ 0x00 ∷ 0x01 ∷ 0x00 ∷ 0x00 ∷ []) })
    -- two objects in an answer: L2 4
    ∷ sees opened
    (write amount1250 64 ∷ begin fci 261 64 ∷ answer one_record 261 64 ∷ answer (0x70 ∷ 0x0B ∷ 0x5A ∷ 0x03 ∷ 0x12 ∷ 0x34 ∷ 0x5F ∷ 0x5F ∷ 0x24 ∷ 0x03 ∷ 0x30 ∷ 0x12 ∷ 0x31 ∷ 0x70 ∷ 0x05 ∷ 0x9F ∷ 0x07 ∷ 0x02 ∷ 0xFF ∷ 0x00 ∷ 0x90 ∷ 0x00 ∷ []) 261 64 ∷ [])
    (record { replies = takes ∷ hands ask_options ∷ hands read_first ∷ ends ∷ []; phase = 40; count = 2; end = (4 ∷ 0 ∷ 4 ∷ 22 ∷ 1 ∷ 1 ∷ 0 ∷ 0 ∷ 0 ∷ 0 ∷ 0 ∷ []); tvr = []; indication = (0 ∷ 4 ∷ 0 ∷ 0 ∷ 0 ∷ 0 ∷ []); floor = (0x00 ∷ 0x00 ∷ 0x00 ∷ 0x01 ∷ 0x00 ∷ 0x00 ∷ []) })
    -- a faulty AFL: L2 6, after the text was stored
    ∷ sees opened
    (write amount1250 64 ∷ begin fci 261 64 ∷ answer (0x77 ∷ 0x0A ∷ 0x82 ∷ 0x02 ∷ 0x00 ∷ 0x00 ∷ 0x94 ∷ 0x04 ∷ 0x08 ∷ 0x02 ∷ 0x01 ∷ 0x00 ∷ 0x90 ∷ 0x00 ∷ []) 261 64 ∷ [])
    (record { replies = takes ∷ hands ask_options ∷ ends ∷ []; phase = 40; count = 1; end = (4 ∷ 0 ∷ 6 ∷ 20 ∷ 0 ∷ 0 ∷ 0 ∷ 0 ∷ 0 ∷ 0 ∷ 0 ∷ []); tvr = []; indication = (0 ∷ 6 ∷ 0 ∷ 0 ∷ 0 ∷ 0 ∷ []); floor = (0x00 ∷ 0x00 ∷ 0x00 ∷ 0x01 ∷ 0x00 ∷ 0x00 ∷ []) })
    -- an AFL that names a record twice
    ∷ sees opened
    (write amount1250 64 ∷ begin fci 261 64 ∷ answer (0x77 ∷ 0x0E ∷ 0x82 ∷ 0x02 ∷ 0x00 ∷ 0x00 ∷ 0x94 ∷ 0x08 ∷ 0x08 ∷ 0x01 ∷ 0x02 ∷ 0x00 ∷ 0x08 ∷ 0x02 ∷ 0x02 ∷ 0x00 ∷ 0x90 ∷ 0x00 ∷ []) 261 64 ∷ [])
    (record { replies = takes ∷ hands ask_options ∷ ends ∷ []; phase = 40; count = 1; end = (4 ∷ 0 ∷ 6 ∷ 20 ∷ 0 ∷ 0 ∷ 0 ∷ 0 ∷ 0 ∷ 0 ∷ 0 ∷ []); tvr = []; indication = (0 ∷ 6 ∷ 0 ∷ 0 ∷ 0 ∷ 0 ∷ []); floor = (0x00 ∷ 0x00 ∷ 0x00 ∷ 0x01 ∷ 0x00 ∷ 0x00 ∷ []) })
    -- a faulty PDOL: L2 6
    ∷ sees opened
    (write amount1250 64 ∷ begin (0x6F ∷ 0x04 ∷ 0x9F ∷ 0x38 ∷ 0x01 ∷ 0x9F ∷ []) 261 64 ∷ [])
    (record { replies = takes ∷ ends ∷ []; phase = 40; count = 0; end = (4 ∷ 0 ∷ 6 ∷ 0 ∷ 0 ∷ 0 ∷ 0 ∷ 0 ∷ 0 ∷ 0 ∷ 0 ∷ []); tvr = []; indication = (0 ∷ 6 ∷ 0 ∷ 0 ∷ 0 ∷ 0 ∷ []); floor = (0x00 ∷ 0x00 ∷ 0x00 ∷ 0x01 ∷ 0x00 ∷ 0x00 ∷ []) })
    -- a faulty CDOL1: L2 6, the TVR being held
    ∷ sees opened
    (write amount1250 64 ∷ begin fci 261 64 ∷ answer one_record 261 64 ∷ answer (0x70 ∷ 0x0F ∷ 0x5A ∷ 0x03 ∷ 0x12 ∷ 0x34 ∷ 0x5F ∷ 0x5F ∷ 0x24 ∷ 0x03 ∷ 0x30 ∷ 0x12 ∷ 0x31 ∷ 0x8C ∷ 0x02 ∷ 0x9F ∷ 0x02 ∷ 0x90 ∷ 0x00 ∷ []) 261 64 ∷ [])
    (record { replies = takes ∷ hands ask_options ∷ hands read_first ∷ ends ∷ []; phase = 40; count = 2; end = (4 ∷ 0 ∷ 6 ∷ 22 ∷ 1 ∷ 1 ∷ 0 ∷ 0 ∷ 0 ∷ 0 ∷ 0 ∷ []); tvr = (0 ∷ 0 ∷ 0 ∷ 0 ∷ 0 ∷ []); indication = (0 ∷ 6 ∷ 0 ∷ 0 ∷ 0 ∷ 0 ∷ []); floor = (0x00 ∷ 0x00 ∷ 0x00 ∷ 0x01 ∷ 0x00 ∷ 0x00 ∷ []) })
    -- a faulty Default CDOL1: L2 15
    ∷ sees (open_over 0 unopened shares (0xDF ∷ 0x81 ∷ 0x21 ∷ 0x05 ∷ 0x00 ∷ 0x00 ∷ 0x00 ∷ 0x00 ∷ 0x00 ∷ 0xDF ∷ 0x81 ∷ 0x22 ∷ 0x05 ∷ 0x00 ∷ 0x00 ∷ 0x00 ∷ 0x00 ∷ 0x00 ∷ 0xDF ∷ 0x81 ∷ 0x23 ∷ 0x06 ∷ 0x00 ∷ 0x00 ∷ 0x00 ∷ 0x01 ∷ 0x00 ∷ 0x00 ∷ 0xDF ∷ 0x85 ∷ 0x6C ∷ 0x06 ∷ 0x9F ∷ 0x02 ∷ 0xFF ∷ 0x9F ∷ 0x02 ∷ 0xFF ∷ 0x9F ∷ 0x35 ∷ 0x01 ∷ 0x22 ∷ []) 64).after
    (write amount1250 64 ∷ begin fci 261 64 ∷ answer one_record 261 64 ∷ answer pan_record 261 64 ∷ [])
    (record { replies = takes ∷ hands ask_options ∷ hands read_first ∷ ends ∷ []; phase = 40; count = 2; end = (4 ∷ 0 ∷ 15 ∷ 22 ∷ 1 ∷ 1 ∷ 0 ∷ 0 ∷ 0 ∷ 0 ∷ 0 ∷ []); tvr = (0 ∷ 0 ∷ 0 ∷ 0 ∷ 0 ∷ []); indication = (0 ∷ 15 ∷ 0 ∷ 0 ∷ 0 ∷ 0 ∷ []); floor = (0x00 ∷ 0x00 ∷ 0x00 ∷ 0x01 ∷ 0x00 ∷ 0x00 ∷ []) })
    -- a TC where an ARQC was asked for: L2 6
    ∷ sees (open_over 0 unopened shares (0xDF ∷ 0x81 ∷ 0x21 ∷ 0x05 ∷ 0x00 ∷ 0x00 ∷ 0x00 ∷ 0x00 ∷ 0x00 ∷ 0xDF ∷ 0x81 ∷ 0x22 ∷ 0x05 ∷ 0x00 ∷ 0x00 ∷ 0x00 ∷ 0x80 ∷ 0x00 ∷ 0xDF ∷ 0x81 ∷ 0x23 ∷ 0x06 ∷ 0x00 ∷ 0x00 ∷ 0x00 ∷ 0x00 ∷ 0x10 ∷ 0x00 ∷ 0xDF ∷ 0x85 ∷ 0x6C ∷ 0x06 ∷ 0x9F ∷ 0x02 ∷ 0x06 ∷ 0x9F ∷ 0x37 ∷ 0x04 ∷ 0x9F ∷ 0x35 ∷ 0x01 ∷ 0x22 ∷ []) 64).after
    (write amount1250 64 ∷ begin fci 261 64 ∷ answer one_record 261 64 ∷ answer pan_record 261 64 ∷ answer gives_tc 261 64 ∷ [])
    (record { replies = takes ∷ hands ask_options ∷ hands read_first ∷ hands ask_arqc ∷ ends ∷ []; phase = 40; count = 3; end = (4 ∷ 0 ∷ 6 ∷ 26 ∷ 0 ∷ 0 ∷ 0 ∷ 0 ∷ 0 ∷ 0 ∷ 0 ∷ []); tvr = (0 ∷ 0 ∷ 0 ∷ 128 ∷ 0 ∷ []); indication = (0 ∷ 6 ∷ 0 ∷ 0 ∷ 0 ∷ 0 ∷ []); floor = (0x00 ∷ 0x00 ∷ 0x00 ∷ 0x00 ∷ 0x10 ∷ 0x00 ∷ []) })
    -- values above the card's share: L2 6
    ∷ sees (open_over 0 unopened (record { configuration = 300; terminal = 300; card = 18 }) config 64).after
    (write amount1250 64 ∷ begin fci 261 64 ∷ answer one_record 261 64 ∷ answer pan_record 261 64 ∷ [])
    (record { replies = takes ∷ hands ask_options ∷ hands read_first ∷ ends ∷ []; phase = 40; count = 2; end = (4 ∷ 0 ∷ 6 ∷ 22 ∷ 1 ∷ 1 ∷ 0 ∷ 0 ∷ 0 ∷ 0 ∷ 0 ∷ []); tvr = []; indication = (0 ∷ 6 ∷ 0 ∷ 0 ∷ 0 ∷ 0 ∷ []); floor = (0x00 ∷ 0x00 ∷ 0x00 ∷ 0x01 ∷ 0x00 ∷ 0x00 ∷ []) })
    -- link faults: codes 0 and 4 are refused, and the others set L1
    ∷ sees opened
    (write amount1250 64 ∷ begin fci 261 64 ∷ answer one_record 261 64 ∷ link_fault 0 ∷ link_fault 4 ∷ link_fault 2 ∷ stop ∷ link_fault 2 ∷ [])
    (record { replies = takes ∷ hands ask_options ∷ hands read_first ∷ refuses 11 0 0 0 ∷ refuses 11 0 0 0 ∷ ends ∷ refuses 10 0 0 0 ∷ refuses 10 0 0 0 ∷ []; phase = 40; count = 2; end = (4 ∷ 2 ∷ 0 ∷ 22 ∷ 1 ∷ 1 ∷ 0 ∷ 0 ∷ 0 ∷ 0 ∷ 0 ∷ []); tvr = []; indication = (2 ∷ 0 ∷ 0 ∷ 0 ∷ 0 ∷ 0 ∷ []); floor = (0x00 ∷ 0x00 ∷ 0x00 ∷ 0x01 ∷ 0x00 ∷ 0x00 ∷ []) })
    -- a stop leaves L1 and L2 zero
    ∷ sees opened
    (write amount1250 64 ∷ begin fci 261 64 ∷ answer one_record 261 64 ∷ stop ∷ stop ∷ [])
    (record { replies = takes ∷ hands ask_options ∷ hands read_first ∷ ends ∷ refuses 10 0 0 0 ∷ []; phase = 40; count = 2; end = (4 ∷ 0 ∷ 0 ∷ 22 ∷ 1 ∷ 1 ∷ 0 ∷ 0 ∷ 0 ∷ 0 ∷ 0 ∷ []); tvr = []; indication = (0 ∷ 0 ∷ 0 ∷ 0 ∷ 0 ∷ 0 ∷ []); floor = (0x00 ∷ 0x00 ∷ 0x00 ∷ 0x01 ∷ 0x00 ∷ 0x00 ∷ []) })
    -- a sale, a clear and another sale
    ∷ sees opened
    (write amount1250 64 ∷ begin fci 261 64 ∷ answer one_record 261 64 ∷ stop ∷ clear ∷ begin fci 261 64 ∷ write amount1250 64 ∷ begin fci 261 64 ∷ begin fci 261 64 ∷ write amount1250 64 ∷ write (0xDF ∷ 0x81 ∷ 0x12 ∷ 0x01 ∷ 0x5A ∷ []) 64 ∷ [])
    (record { replies = takes ∷ hands ask_options ∷ hands read_first ∷ ends ∷ takes ∷ refuses 9 0 0 0x9F02 ∷ takes ∷ hands ask_options ∷ refuses 8 0 0 0 ∷ refuses 6 7 0 0x9F02 ∷ takes ∷ []; phase = 20; count = 1; end = []; tvr = []; indication = []; floor = (0x00 ∷ 0x00 ∷ 0x00 ∷ 0x01 ∷ 0x00 ∷ 0x00 ∷ []) })
    -- filler around the objects, and a length in two bytes
    ∷ sees opened
    (write amount1250 64 ∷ begin fci 261 64 ∷ answer one_record 261 64 ∷ answer (0x00 ∷ 0x70 ∷ 0x0F ∷ 0x00 ∷ 0x5A ∷ 0x03 ∷ 0x12 ∷ 0x34 ∷ 0x5F ∷ 0x5F ∷ 0x24 ∷ 0x81 ∷ 0x03 ∷ 0x30 ∷ 0x12 ∷ 0x31 ∷ 0xC1 ∷ 0x00 ∷ 0x00 ∷ 0x90 ∷ 0x00 ∷ []) 261 64 ∷ [])
    (record { replies = takes ∷ hands ask_options ∷ hands read_first ∷ hands ask_tc ∷ []; phase = 26; count = 3; end = []; tvr = (0 ∷ 0 ∷ 0 ∷ 0 ∷ 0 ∷ []); indication = []; floor = (0x00 ∷ 0x00 ∷ 0x00 ∷ 0x01 ∷ 0x00 ∷ 0x00 ∷ []) })
    -- buffers of 260 bytes and work lists of 63 elements: refusal 2
    ∷ sees opened
    (write amount1250 63 ∷ write amount1250 64 ∷ begin fci 260 64 ∷ begin fci 261 63 ∷ begin fci 261 64 ∷ answer one_record 260 64 ∷ answer one_record 261 0 ∷ answer one_record 261 64 ∷ [])
    (record { replies = refuses 2 0 0 0 ∷ takes ∷ refuses 2 0 0 0 ∷ refuses 2 0 0 0 ∷ hands ask_options ∷ refuses 2 0 0 0 ∷ refuses 2 0 0 0 ∷ hands read_first ∷ []; phase = 22; count = 2; end = []; tvr = []; indication = []; floor = (0x00 ∷ 0x00 ∷ 0x00 ∷ 0x01 ∷ 0x00 ∷ 0x00 ∷ []) })
    -- no amount, and an empty one: refusal 9 with tag 9F02
    ∷ sees opened
    (begin fci 261 64 ∷ write (0x9F ∷ 0x02 ∷ 0x00 ∷ []) 64 ∷ begin fci 261 64 ∷ [])
    (record { replies = refuses 9 0 0 0x9F02 ∷ takes ∷ refuses 9 0 0 0x9F02 ∷ []; phase = 0; count = 0; end = []; tvr = []; indication = []; floor = (0x00 ∷ 0x00 ∷ 0x00 ∷ 0x01 ∷ 0x00 ∷ 0x00 ∷ []) })
    -- no TAC Online: refusal 9 with tag DF8122
    ∷ sees (open_over 0 unopened shares (0xDF ∷ 0x81 ∷ 0x21 ∷ 0x05 ∷ 0x00 ∷ 0x00 ∷ 0x00 ∷ 0x00 ∷ 0x00 ∷ 0xDF ∷ 0x81 ∷ 0x23 ∷ 0x06 ∷ 0x00 ∷ 0x00 ∷ 0x00 ∷ 0x01 ∷ 0x00 ∷ 0x00 ∷ 0xDF ∷ 0x85 ∷ 0x6C ∷ 0x06 ∷ 0x9F ∷ 0x02 ∷ 0x06 ∷ 0x9F ∷ 0x37 ∷ 0x04 ∷ 0x9F ∷ 0x35 ∷ 0x01 ∷ 0x22 ∷ []) 64).after
    (write amount1250 64 ∷ begin fci 261 64 ∷ [])
    (record { replies = takes ∷ refuses 9 0 0 0xDF_8122 ∷ []; phase = 0; count = 0; end = []; tvr = []; indication = []; floor = (0x00 ∷ 0x00 ∷ 0x00 ∷ 0x01 ∷ 0x00 ∷ 0x00 ∷ []) })
    -- no command waits: refusal 10
    ∷ sees opened
    (stop ∷ link_fault 1 ∷ answer three_records 261 64 ∷ clear ∷ [])
    (record { replies = refuses 10 0 0 0 ∷ refuses 10 0 0 0 ∷ refuses 10 0 0 0 ∷ takes ∷ []; phase = 0; count = 0; end = []; tvr = []; indication = []; floor = (0x00 ∷ 0x00 ∷ 0x00 ∷ 0x01 ∷ 0x00 ∷ 0x00 ∷ []) })
    -- text faults 1 to 6 in a terminal write: refusal 5
    ∷ sees opened
    (write (0x9F ∷ []) 64 ∷ write (0x9F ∷ 0x81 ∷ 0x81 ∷ 0x01 ∷ 0x00 ∷ []) 64 ∷ write (0x50 ∷ 0x82 ∷ 0x00 ∷ 0x01 ∷ 0x41 ∷ []) 64 ∷ write (0x9F ∷ 0x03 ∷ 0x03 ∷ 0x41 ∷ 0x42 ∷ []) 64 ∷ write (0x9C ∷ 0x01 ∷ 0x00 ∷ 0xE1 ∷ 0x0A ∷ 0xE1 ∷ 0x08 ∷ 0xE1 ∷ 0x06 ∷ 0xE1 ∷ 0x04 ∷ 0xE1 ∷ 0x02 ∷ 0xE1 ∷ 0x00 ∷ []) 64 ∷ write (0xC1 ∷ 0x00 ∷ 0xC1 ∷ 0x00 ∷ 0xC1 ∷ 0x00 ∷ 0xC1 ∷ 0x00 ∷ 0xC1 ∷ 0x00 ∷ 0xC1 ∷ 0x00 ∷ 0xC1 ∷ 0x00 ∷ 0xC1 ∷ 0x00 ∷ 0xC1 ∷ 0x00 ∷ 0xC1 ∷ 0x00 ∷ 0xC1 ∷ 0x00 ∷ 0xC1 ∷ 0x00 ∷ 0xC1 ∷ 0x00 ∷ 0xC1 ∷ 0x00 ∷ 0xC1 ∷ 0x00 ∷ 0xC1 ∷ 0x00 ∷ 0xC1 ∷ 0x00 ∷ 0xC1 ∷ 0x00 ∷ 0xC1 ∷ 0x00 ∷ 0xC1 ∷ 0x00 ∷ 0xC1 ∷ 0x00 ∷ 0xC1 ∷ 0x00 ∷ 0xC1 ∷ 0x00 ∷ 0xC1 ∷ 0x00 ∷ 0xC1 ∷ 0x00 ∷ 0xC1 ∷ 0x00 ∷ 0xC1 ∷ 0x00 ∷ 0xC1 ∷ 0x00 ∷ 0xC1 ∷ 0x00 ∷ 0xC1 ∷ 0x00 ∷ 0xC1 ∷ 0x00 ∷ 0xC1 ∷ 0x00 ∷ 0xC1 ∷ 0x00 ∷ 0xC1 ∷ 0x00 ∷ 0xC1 ∷ 0x00 ∷ 0xC1 ∷ 0x00 ∷ 0xC1 ∷ 0x00 ∷ 0xC1 ∷ 0x00 ∷ 0xC1 ∷ 0x00 ∷ 0xC1 ∷ 0x00 ∷ 0xC1 ∷ 0x00 ∷ 0xC1 ∷ 0x00 ∷ 0xC1 ∷ 0x00 ∷ 0xC1 ∷ 0x00 ∷ 0xC1 ∷ 0x00 ∷ 0xC1 ∷ 0x00 ∷ 0xC1 ∷ 0x00 ∷ 0xC1 ∷ 0x00 ∷ 0xC1 ∷ 0x00 ∷ 0xC1 ∷ 0x00 ∷ 0xC1 ∷ 0x00 ∷ 0xC1 ∷ 0x00 ∷ 0xC1 ∷ 0x00 ∷ 0xC1 ∷ 0x00 ∷ 0xC1 ∷ 0x00 ∷ 0xC1 ∷ 0x00 ∷ 0xC1 ∷ 0x00 ∷ 0xC1 ∷ 0x00 ∷ 0xC1 ∷ 0x00 ∷ 0xC1 ∷ 0x00 ∷ 0xC1 ∷ 0x00 ∷ 0xC1 ∷ 0x00 ∷ 0xC1 ∷ 0x00 ∷ 0xC1 ∷ 0x00 ∷ 0xC1 ∷ 0x00 ∷ []) 64 ∷ [])
    (record { replies = refuses 5 1 0 0 ∷ refuses 5 2 0 0 ∷ refuses 5 3 0 0 ∷ refuses 5 4 0 0 ∷ refuses 5 5 13 0 ∷ refuses 5 6 128 0 ∷ []; phase = 0; count = 0; end = []; tvr = []; indication = []; floor = (0x00 ∷ 0x00 ∷ 0x00 ∷ 0x01 ∷ 0x00 ∷ 0x00 ∷ []) })
    -- object faults 1 to 5: refusal 6
    ∷ sees opened
    (write (0xC1 ∷ 0x01 ∷ 0x00 ∷ []) 64 ∷ write (0xE1 ∷ 0x00 ∷ []) 64 ∷ write (0x82 ∷ 0x02 ∷ 0x00 ∷ 0x00 ∷ []) 64 ∷ write (0x9F ∷ 0x35 ∷ 0x01 ∷ 0x22 ∷ []) 64 ∷ write (0x95 ∷ 0x05 ∷ 0x00 ∷ 0x00 ∷ 0x00 ∷ 0x00 ∷ 0x00 ∷ []) 64 ∷ write (0x9F ∷ 0x02 ∷ 0x02 ∷ 0x12 ∷ 0x50 ∷ []) 64 ∷ write (0x9C ∷ 0x01 ∷ 0x0A ∷ []) 64 ∷ write (0x9C ∷ 0x01 ∷ 0x00 ∷ 0x00 ∷ 0x00 ∷ 0x9C ∷ 0x01 ∷ 0x01 ∷ []) 64 ∷ [])
    (record { replies = refuses 6 1 0 0xC1 ∷ refuses 6 1 0 0xE1 ∷ refuses 6 2 0 0x82 ∷ refuses 6 2 0 0x9F35 ∷ refuses 6 2 0 0x95 ∷ refuses 6 3 0 0x9F02 ∷ refuses 6 4 0 0x9C ∷ refuses 6 5 5 0x9C ∷ []; phase = 0; count = 0; end = []; tvr = []; indication = []; floor = (0x00 ∷ 0x00 ∷ 0x00 ∷ 0x01 ∷ 0x00 ∷ 0x00 ∷ []) })
    -- a terminal's share of 13 bytes: refusal 7
    ∷ sees (open_over 0 unopened (record { configuration = 300; terminal = 13; card = 300 }) config 64).after
    (write amount1250 64 ∷ write (0x9F ∷ 0x4E ∷ 0x04 ∷ 0x53 ∷ 0x48 ∷ 0x4F ∷ 0x50 ∷ []) 64 ∷ write (0x9F ∷ 0x4E ∷ 0x03 ∷ 0x53 ∷ 0x48 ∷ 0x4F ∷ []) 64 ∷ write (0x9F ∷ 0x4E ∷ 0x01 ∷ 0x53 ∷ 0xDF ∷ 0x81 ∷ 0x12 ∷ 0x02 ∷ 0x5A ∷ 0x57 ∷ []) 64 ∷ write (0x9F ∷ 0x4E ∷ 0x01 ∷ 0x53 ∷ 0xDF ∷ 0x81 ∷ 0x12 ∷ 0x03 ∷ 0x5A ∷ 0x57 ∷ 0x57 ∷ []) 64 ∷ [])
    (record { replies = takes ∷ refuses 7 0 0 0 ∷ takes ∷ takes ∷ refuses 7 0 0 0 ∷ []; phase = 0; count = 0; end = []; tvr = []; indication = []; floor = (0x00 ∷ 0x00 ∷ 0x00 ∷ 0x01 ∷ 0x00 ∷ 0x00 ∷ []) })
    -- opening an open reader: refusal 1
    ∷ replies (open_over 0 opened (record { configuration = 300; terminal = 300; card = 300 }) config 64) (refuses 1 0 0 0)
    -- refusal 2
    ∷ replies (open_over 0 (with_limits 64 1000) (record { configuration = 300; terminal = 300; card = 300 }) config 63) (refuses 2 0 0 0)
    -- over a store that holds an object: refusal 3
    ∷ replies (open_over 1 (with_limits 64 1000) (record { configuration = 300; terminal = 300; card = 300 }) config 64) (refuses 3 0 0 0)
    -- over a store for 63 objects: refusal 4
    ∷ replies (open_over 0 (with_limits 63 1000) (record { configuration = 300; terminal = 300; card = 300 }) config 64) (refuses 4 0 0 0)
    -- over a store that is one byte too small: refusal 4
    ∷ replies (open_over 0 (with_limits 64 915) (record { configuration = 300; terminal = 300; card = 300 }) config 64) (refuses 4 0 0 0)
    -- over one that is just large enough
    ∷ replies (open_over 0 (with_limits 64 916) (record { configuration = 300; terminal = 300; card = 300 }) config 64) (takes)
    -- with a text fault: refusal 5
    ∷ replies (open_over 0 (with_limits 64 1000) (record { configuration = 300; terminal = 300; card = 300 }) (0x9F ∷ 0x35 ∷ []) 64) (refuses 5 3 0 0)
    -- with an object of the terminal's: refusal 6
    ∷ replies (open_over 0 (with_limits 64 1000) (record { configuration = 300; terminal = 300; card = 300 }) (0xDF ∷ 0x81 ∷ 0x21 ∷ 0x05 ∷ 0x00 ∷ 0x00 ∷ 0x00 ∷ 0x00 ∷ 0x00 ∷ 0xDF ∷ 0x81 ∷ 0x22 ∷ 0x05 ∷ 0x00 ∷ 0x00 ∷ 0x00 ∷ 0x00 ∷ 0x00 ∷ 0xDF ∷ 0x81 ∷ 0x23 ∷ 0x06 ∷ 0x00 ∷ 0x00 ∷ 0x00 ∷ 0x01 ∷ 0x00 ∷ 0x00 ∷ 0xDF ∷ 0x85 ∷ 0x6C ∷ 0x06 ∷ 0x9F ∷ 0x02 ∷ 0x06 ∷ 0x9F ∷ 0x37 ∷ 0x04 ∷ 0x9F ∷ 0x35 ∷ 0x01 ∷ 0x22 ∷ 0x9F ∷ 0x02 ∷ 0x06 ∷ 0x00 ∷ 0x00 ∷ 0x00 ∷ 0x00 ∷ 0x12 ∷ 0x50 ∷ 0x9F ∷ 0x37 ∷ 0x04 ∷ 0x01 ∷ 0x02 ∷ 0x03 ∷ 0x04 ∷ []) 64) (refuses 6 2 42 0x9F02)
    -- with more bytes than the share: refusal 7
    ∷ replies (open_over 0 (with_limits 64 1000) (record { configuration = 22; terminal = 300; card = 300 }) config 64) (refuses 7 0 0 0)
    -- calls of a reader that is not open: refusal 1
    ∷ replies (step unopened (write amount1250 64)) (refuses 1 0 0 0)
    ∷ replies (step unopened (begin fci 261 64)) (refuses 1 0 0 0)
    ∷ replies (step unopened (answer pan_record 261 64)) (refuses 1 0 0 0)
    ∷ replies (step unopened (link_fault 7)) (refuses 1 0 0 0)
    ∷ replies (step unopened (stop)) (refuses 1 0 0 0)
    ∷ replies (step unopened (clear)) (refuses 1 0 0 0)
    -- a T object and a second begin after begin: object fault 7 and refusal 8; a D object is taken
    ∷ sees opened
    (write amount1250 64 ∷ begin fci 261 64 ∷ begin fci 261 64 ∷ write amount1250 64 ∷ write (0x9F ∷ 0x4E ∷ 0x01 ∷ 0x41 ∷ []) 64 ∷ [])
    (record { replies = takes ∷ hands ask_options ∷ refuses 8 0 0 0 ∷ refuses 6 7 0 0x9F02 ∷ takes ∷ []; phase = 20; count = 1; end = []; tvr = []; indication = []; floor = (0x00 ∷ 0x00 ∷ 0x00 ∷ 0x01 ∷ 0x00 ∷ 0x00 ∷ []) })
    -- the outcome of a reader that is not open, and before any run: refusals 1 and 13
    ∷ tells unopened (refuses 1 0 0 0)
    ∷ tells opened (refuses 13 0 0 0)
    -- an FCI of 256 bytes, filler among them, and one of 257: L2 4
    ∷ sees opened
    (write amount1250 64 ∷ begin (0x6F ∷ replicate 255 0) 261 64 ∷ [])
    (record { replies = takes ∷ hands ask_options ∷ []; phase = 20; count = 1; end = []; tvr = []; indication = []; floor = (0x00 ∷ 0x00 ∷ 0x00 ∷ 0x01 ∷ 0x00 ∷ 0x00 ∷ []) })
    ∷ sees opened
    (write amount1250 64 ∷ begin (0x6F ∷ replicate 256 0) 261 64 ∷ [])
    (record { replies = takes ∷ ends ∷ []; phase = 40; count = 0; end = (4 ∷ 0 ∷ 4 ∷ 0 ∷ 0 ∷ 0 ∷ 0 ∷ 0 ∷ 0 ∷ 0 ∷ 0 ∷ []); tvr = []; indication = (0 ∷ 4 ∷ 0 ∷ 0 ∷ 0 ∷ 0 ∷ []); floor = (0x00 ∷ 0x00 ∷ 0x00 ∷ 0x01 ∷ 0x00 ∷ 0x00 ∷ []) })
    -- an answer of 258 bytes, filler among them, and one of 259: L2 4
    ∷ sees opened
    (write amount1250 64 ∷ begin fci 261 64 ∷ answer (take 12 one_record ++ replicate 244 0 ++ 0x90 ∷ 0x00 ∷ []) 261 64 ∷ [])
    (record { replies = takes ∷ hands ask_options ∷ hands read_first ∷ []; phase = 22; count = 2; end = []; tvr = []; indication = []; floor = (0x00 ∷ 0x00 ∷ 0x00 ∷ 0x01 ∷ 0x00 ∷ 0x00 ∷ []) })
    ∷ sees opened
    (write amount1250 64 ∷ begin fci 261 64 ∷ answer (take 12 one_record ++ replicate 245 0 ++ 0x90 ∷ 0x00 ∷ []) 261 64 ∷ [])
    (record { replies = takes ∷ hands ask_options ∷ ends ∷ []; phase = 40; count = 1; end = (4 ∷ 0 ∷ 4 ∷ 20 ∷ 0 ∷ 0 ∷ 0 ∷ 0 ∷ 0 ∷ 0 ∷ 0 ∷ []); tvr = []; indication = (0 ∷ 4 ∷ 0 ∷ 0 ∷ 0 ∷ 0 ∷ []); floor = (0x00 ∷ 0x00 ∷ 0x00 ∷ 0x01 ∷ 0x00 ∷ 0x00 ∷ []) })
    -- an AFL of 64 records, and one of 65: L2 6
    ∷ sees opened
    (write amount1250 64 ∷ begin fci 261 64 ∷ answer (0x77 ∷ 0x0A ∷ 0x82 ∷ 0x02 ∷ 0x00 ∷ 0x00 ∷ 0x94 ∷ 0x04 ∷ 0x08 ∷ 0x01 ∷ 0x40 ∷ 0x00 ∷ 0x90 ∷ 0x00 ∷ []) 261 64 ∷ [])
    (record { replies = takes ∷ hands ask_options ∷ hands read_first ∷ []; phase = 22; count = 2; end = []; tvr = []; indication = []; floor = (0x00 ∷ 0x00 ∷ 0x00 ∷ 0x01 ∷ 0x00 ∷ 0x00 ∷ []) })
    ∷ sees opened
    (write amount1250 64 ∷ begin fci 261 64 ∷ answer (0x77 ∷ 0x0A ∷ 0x82 ∷ 0x02 ∷ 0x00 ∷ 0x00 ∷ 0x94 ∷ 0x04 ∷ 0x08 ∷ 0x01 ∷ 0x41 ∷ 0x00 ∷ 0x90 ∷ 0x00 ∷ []) 261 64 ∷ [])
    (record { replies = takes ∷ hands ask_options ∷ ends ∷ []; phase = 40; count = 1; end = (4 ∷ 0 ∷ 6 ∷ 20 ∷ 0 ∷ 0 ∷ 0 ∷ 0 ∷ 0 ∷ 0 ∷ 0 ∷ []); tvr = []; indication = (0 ∷ 6 ∷ 0 ∷ 0 ∷ 0 ∷ 0 ∷ []); floor = (0x00 ∷ 0x00 ∷ 0x00 ∷ 0x01 ∷ 0x00 ∷ 0x00 ∷ []) })
    -- answers that bring nothing: the first tag missing is told
    ∷ sees opened
    (write amount1250 64 ∷ begin fci 261 64 ∷ answer (0x77 ∷ 0x00 ∷ 0x90 ∷ 0x00 ∷ []) 261 64 ∷ [])
    (record { replies = takes ∷ hands ask_options ∷ ends ∷ []; phase = 40; count = 1; end = (4 ∷ 0 ∷ 1 ∷ 20 ∷ 0 ∷ 0 ∷ 0x82 ∷ 0 ∷ 0 ∷ 0 ∷ 0 ∷ []); tvr = []; indication = (0 ∷ 1 ∷ 0 ∷ 0 ∷ 0 ∷ 0 ∷ []); floor = (0x00 ∷ 0x00 ∷ 0x00 ∷ 0x01 ∷ 0x00 ∷ 0x00 ∷ []) })
    ∷ sees opened
    (write amount1250 64 ∷ begin fci 261 64 ∷ answer one_record 261 64 ∷ answer (0x70 ∷ 0x00 ∷ 0x90 ∷ 0x00 ∷ []) 261 64 ∷ [])
    (record { replies = takes ∷ hands ask_options ∷ hands read_first ∷ ends ∷ []; phase = 40; count = 2; end = (4 ∷ 0 ∷ 1 ∷ 22 ∷ 1 ∷ 1 ∷ 0x5A ∷ 0 ∷ 0 ∷ 0 ∷ 0 ∷ []); tvr = []; indication = (0 ∷ 1 ∷ 0 ∷ 0 ∷ 0 ∷ 0 ∷ []); floor = (0x00 ∷ 0x00 ∷ 0x00 ∷ 0x01 ∷ 0x00 ∷ 0x00 ∷ []) })
    ∷ sees opened
    (write amount1250 64 ∷ begin fci 261 64 ∷ answer one_record 261 64 ∷ answer pan_record 261 64 ∷ answer (0x77 ∷ 0x00 ∷ 0x90 ∷ 0x00 ∷ []) 261 64 ∷ [])
    (record { replies = takes ∷ hands ask_options ∷ hands read_first ∷ hands ask_tc ∷ ends ∷ []; phase = 40; count = 3; end = (4 ∷ 0 ∷ 1 ∷ 26 ∷ 0 ∷ 0 ∷ 0x9F27 ∷ 0 ∷ 0 ∷ 0 ∷ 0 ∷ []); tvr = (0 ∷ 0 ∷ 0 ∷ 0 ∷ 0 ∷ []); indication = (0 ∷ 1 ∷ 0 ∷ 0 ∷ 0 ∷ 0 ∷ []); floor = (0x00 ∷ 0x00 ∷ 0x00 ∷ 0x01 ∷ 0x00 ∷ 0x00 ∷ []) })
    ∷ sees opened
    (write amount1250 64 ∷ begin fci 261 64 ∷ answer one_record 261 64 ∷ answer pan_record 261 64 ∷ answer (0x77 ∷ 0x04 ∷ 0x9F ∷ 0x27 ∷ 0x01 ∷ 0x40 ∷ 0x90 ∷ 0x00 ∷ []) 261 64 ∷ [])
    (record { replies = takes ∷ hands ask_options ∷ hands read_first ∷ hands ask_tc ∷ ends ∷ []; phase = 40; count = 3; end = (4 ∷ 0 ∷ 1 ∷ 26 ∷ 0 ∷ 0 ∷ 0x9F36 ∷ 0 ∷ 0 ∷ 0 ∷ 0 ∷ []); tvr = (0 ∷ 0 ∷ 0 ∷ 0 ∷ 0 ∷ []); indication = (0 ∷ 1 ∷ 0 ∷ 0 ∷ 0 ∷ 0 ∷ []); floor = (0x00 ∷ 0x00 ∷ 0x00 ∷ 0x01 ∷ 0x00 ∷ 0x00 ∷ []) })
    -- the status comes before the text
    ∷ sees opened
    (write amount1250 64 ∷ begin fci 261 64 ∷ answer (0x9F ∷ 0x6A ∷ 0x82 ∷ []) 261 64 ∷ [])
    (record { replies = takes ∷ hands ask_options ∷ ends ∷ []; phase = 40; count = 1; end = (4 ∷ 0 ∷ 3 ∷ 20 ∷ 0 ∷ 0 ∷ 0 ∷ 0 ∷ 0 ∷ 0 ∷ 0 ∷ []); tvr = []; indication = (0 ∷ 3 ∷ 0 ∷ 0x6A ∷ 0x82 ∷ 0 ∷ []); floor = (0x00 ∷ 0x00 ∷ 0x00 ∷ 0x01 ∷ 0x00 ∷ 0x00 ∷ []) })
    -- a text fault comes before the outer object, and the outer object before an object fault
    ∷ sees opened
    (write amount1250 64 ∷ begin (0x50 ∷ 0x03 ∷ 0x41 ∷ 0x42 ∷ []) 261 64 ∷ [])
    (record { replies = takes ∷ ends ∷ []; phase = 40; count = 0; end = (4 ∷ 0 ∷ 4 ∷ 0 ∷ 0 ∷ 0 ∷ 0 ∷ 5 ∷ 4 ∷ 0 ∷ 0 ∷ []); tvr = []; indication = (0 ∷ 4 ∷ 0 ∷ 0 ∷ 0 ∷ 0 ∷ []); floor = (0x00 ∷ 0x00 ∷ 0x00 ∷ 0x01 ∷ 0x00 ∷ 0x00 ∷ []) })
    ∷ sees opened
    (write amount1250 64 ∷ begin (0x77 ∷ 0x04 ∷ 0xDF ∷ 0x81 ∷ 0x23 ∷ 0x00 ∷ []) 261 64 ∷ [])
    (record { replies = takes ∷ ends ∷ []; phase = 40; count = 0; end = (4 ∷ 0 ∷ 4 ∷ 0 ∷ 0 ∷ 0 ∷ 0 ∷ 0 ∷ 0 ∷ 0 ∷ 0 ∷ []); tvr = []; indication = (0 ∷ 4 ∷ 0 ∷ 0 ∷ 0 ∷ 0 ∷ []); floor = (0x00 ∷ 0x00 ∷ 0x00 ∷ 0x01 ∷ 0x00 ∷ 0x00 ∷ []) })
    -- what begin needs, in its order
    ∷ sees (open_over 0 unopened shares [] 64).after
    (begin fci 261 64 ∷ write amount1250 64 ∷ begin fci 261 64 ∷ [])
    (record { replies = refuses 9 0 0 0x9F02 ∷ takes ∷ refuses 9 0 0 0x9F35 ∷ []; phase = 0; count = 0; end = []; tvr = []; indication = []; floor = [] })
    ∷ sees (open_over 0 unopened shares (0x9F ∷ 0x35 ∷ 0x01 ∷ 0x22 ∷ []) 64).after
    (write amount1250 64 ∷ begin fci 261 64 ∷ [])
    (record { replies = takes ∷ refuses 9 0 0 0xDF_8121 ∷ []; phase = 0; count = 0; end = []; tvr = []; indication = []; floor = [] })
    ∷ sees (open_over 0 unopened shares (0x9F ∷ 0x35 ∷ 0x01 ∷ 0x22 ∷ 0xDF ∷ 0x81 ∷ 0x21 ∷ 0x05 ∷ 0x00 ∷ 0x00 ∷ 0x00 ∷ 0x00 ∷ 0x00 ∷ 0xDF ∷ 0x81 ∷ 0x22 ∷ 0x05 ∷ 0x00 ∷ 0x00 ∷ 0x00 ∷ 0x00 ∷ 0x00 ∷ []) 64).after
    (write amount1250 64 ∷ begin fci 261 64 ∷ [])
    (record { replies = takes ∷ refuses 9 0 0 0xDF_8123 ∷ []; phase = 0; count = 0; end = []; tvr = []; indication = []; floor = [] })
    ∷ sees (open_over 0 unopened shares (0x9F ∷ 0x35 ∷ 0x01 ∷ 0x22 ∷ 0xDF ∷ 0x81 ∷ 0x21 ∷ 0x05 ∷ 0x00 ∷ 0x00 ∷ 0x00 ∷ 0x00 ∷ 0x00 ∷ 0xDF ∷ 0x81 ∷ 0x22 ∷ 0x05 ∷ 0x00 ∷ 0x00 ∷ 0x00 ∷ 0x00 ∷ 0x00 ∷ 0xDF ∷ 0x81 ∷ 0x23 ∷ 0x06 ∷ 0x00 ∷ 0x00 ∷ 0x00 ∷ 0x01 ∷ 0x00 ∷ 0x00 ∷ []) 64).after
    (write amount1250 64 ∷ begin fci 261 64 ∷ [])
    (record { replies = takes ∷ refuses 9 0 0 0xDF_856C ∷ []; phase = 0; count = 0; end = []; tvr = []; indication = []; floor = (0x00 ∷ 0x00 ∷ 0x00 ∷ 0x01 ∷ 0x00 ∷ 0x00 ∷ []) })
    -- the code of a link fault is looked at before a command that waits
    ∷ sees opened
    (link_fault 0 ∷ link_fault 4 ∷ [])
    (record { replies = refuses 11 0 0 0 ∷ refuses 11 0 0 0 ∷ []; phase = 0; count = 0; end = []; tvr = []; indication = []; floor = (0x00 ∷ 0x00 ∷ 0x00 ∷ 0x01 ∷ 0x00 ∷ 0x00 ∷ []) })
    -- the checks of opening, in their order
    ∷ replies (open_over 1 opened shares (0x9F ∷ []) 63) (refuses 1 0 0 0)
    ∷ replies (open_over 1 (with_limits 1 1) shares (0x9F ∷ []) 63) (refuses 2 0 0 0)
    ∷ replies (open_over 1 (with_limits 1 1) shares (0x9F ∷ []) 64) (refuses 3 0 0 0)
    ∷ replies (open_over 0 (with_limits 1 1) shares (0x9F ∷ []) 64) (refuses 4 0 0 0)
    -- AIP and AFL from the FCI, and a cryptogram from a record, do not stand in for what an answer must itself bring
    ∷ sees opened
    (write amount1250 64 ∷ begin (0x6F ∷ 0x0A ∷ 0x82 ∷ 0x02 ∷ 0x00 ∷ 0x00 ∷ 0x94 ∷ 0x04 ∷ 0x08 ∷ 0x01 ∷ 0x01 ∷ 0x00 ∷ []) 261 64 ∷ answer (0x77 ∷ 0x00 ∷ 0x90 ∷ 0x00 ∷ []) 261 64 ∷ [])
    (record { replies = takes ∷ hands ask_options ∷ ends ∷ []; phase = 40; count = 1; end = (4 ∷ 0 ∷ 1 ∷ 20 ∷ 0 ∷ 0 ∷ 0x82 ∷ 0 ∷ 0 ∷ 0 ∷ 0 ∷ []); tvr = []; indication = (0 ∷ 1 ∷ 0 ∷ 0 ∷ 0 ∷ 0 ∷ []); floor = (0x00 ∷ 0x00 ∷ 0x00 ∷ 0x01 ∷ 0x00 ∷ 0x00 ∷ []) })
    ∷ sees opened
    (write amount1250 64 ∷ begin fci 261 64 ∷ answer one_record 261 64 ∷ answer (0x70 ∷ 0x1F ∷ 0x5A ∷ 0x03 ∷ 0x12 ∷ 0x34 ∷ 0x5F ∷ 0x5F ∷ 0x24 ∷ 0x03 ∷ 0x30 ∷ 0x12 ∷ 0x31 ∷ 0x9F ∷ 0x27 ∷ 0x01 ∷ 0x40 ∷ 0x9F ∷ 0x36 ∷ 0x02 ∷ 0x00 ∷ 0x01 ∷ 0x9F ∷ 0x26 ∷ 0x08 ∷ 0x00 ∷ 0x00 ∷ 0x00 ∷ 0x00 ∷ 0x00 ∷ 0x00 ∷ 0x00 ∷ 0x00 ∷ 0x90 ∷ 0x00 ∷ []) 261 64 ∷ answer (0x77 ∷ 0x00 ∷ 0x90 ∷ 0x00 ∷ []) 261 64 ∷ [])
    (record { replies = takes ∷ hands ask_options ∷ hands read_first ∷ hands ask_tc ∷ ends ∷ []; phase = 40; count = 3; end = (4 ∷ 0 ∷ 1 ∷ 26 ∷ 0 ∷ 0 ∷ 0x9F27 ∷ 0 ∷ 0 ∷ 0 ∷ 0 ∷ []); tvr = (0 ∷ 0 ∷ 0 ∷ 0 ∷ 0 ∷ []); indication = (0 ∷ 1 ∷ 0 ∷ 0 ∷ 0 ∷ 0 ∷ []); floor = (0x00 ∷ 0x00 ∷ 0x00 ∷ 0x01 ∷ 0x00 ∷ 0x00 ∷ []) })
    ∷ []

-- Each row holds.
abbrev pub Worked : Type 0
Worked = AllByRecursion Holds table
