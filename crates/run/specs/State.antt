-- What a reader means, whatever the make of its store.
use Rattle.std.specs.Prelude.{ℕ, Bool, true, false, List}
use Rattle.keyed.specs.declared.record.Record.{Record}
use Rattle.store.specs.Map.{Map}
use Rattle.decision.specs.declared.cryptogram.Cryptogram.{Cryptogram}
use Rattle.keeping.specs.declared.shares.Shares.{Shares}
use Rattle.run.specs.declared.phase.PhaseKind.{PhaseKind}
use Rattle.run.specs.declared.phase.PhaseKind.TheVariants.{Ready, AwaitsOptions, AwaitsRecord, AwaitsCryptogram, Ended}
use Rattle.run.specs.declared.outcome.Outcome.{Outcome}

-- How far the run is: which answer it awaits. A record awaited comes with those still to be read after it, GENERATE AC
-- with the cryptogram that was requested, an end with its outcome.
pub data Phase : Type 0 where
  ready : Phase
  awaits_options : Phase
  awaits_record : Record → List Record → Phase
  awaits_cryptogram : Cryptogram → Phase
  ended : Outcome → Phase

-- the phase without what it holds, by which it has its number
abbrev pub kind_of : Phase → PhaseKind
kind_of ready = Ready
kind_of awaits_options = AwaitsOptions
kind_of (awaits_record r rs) = AwaitsRecord
kind_of (awaits_cryptogram c) = AwaitsCryptogram
kind_of (ended o) = Ended

-- a command waits for its answer
abbrev pub waits : Phase → Bool
waits ready = false
waits awaits_options = true
waits (awaits_record r rs) = true
waits (awaits_cryptogram c) = true
waits (ended o) = false

-- no record
abbrev pub no_record : Record
no_record = record { sfi = 0; number = 0 }

-- the record awaited, none in other phases
abbrev pub record_of : Phase → Record
record_of ready = no_record
record_of awaits_options = no_record
record_of (awaits_record r rs) = r
record_of (awaits_cryptogram c) = no_record
record_of (ended o) = no_record

-- what the store can hold: objects, and value bytes
pub record Limits : Type 0 where
  pub objects : ℕ
  pub bytes : ℕ

-- whether the reader is open, its store's limits and what the store holds, the shares, whether a run has begun since the
-- last clear, how far the run is, and how many commands were handed out
pub record Meaning : Type 0 where
  pub opened : Bool
  pub limits : Limits
  pub shares : Shares
  pub held : Map
  pub begun : Bool
  pub phase : Phase
  pub count : ℕ

-- the same reader, with another map
abbrev pub holding : Meaning → Map → Meaning
holding m held' = record { opened = m.opened; limits = m.limits; shares = m.shares; held = held'; begun = m.begun; phase = m.phase; count = m.count }

-- a reader before its opening
abbrev pub closed : Limits → Map → Meaning
closed limits held = record {
  opened = false;
  limits = limits;
  shares = record { configuration = 0; terminal = 0; card = 0 };
  held = held;
  begun = false;
  phase = ready;
  count = 0;
}
