-- What the code's reader means, and what its calls answer, in the words of the definitions.
use Rattle.std.specs.Prelude.{ℕ, ◌+◌, List, ◌++◌, length, take, drop, Ok, Err, Result, slice_index_or}
use Rattle.keyed.specs.declared.record.Record.{Record}
use Rattle.store.specs.declared.reading.ReadStore.{Ghosts}
use Rattle.run.specs.declared.refusal.Refusal.{Refusal}
use Rattle.run.specs.State.{Phase, ready, awaits_options, awaits_record, awaits_cryptogram, ended, Limits, Meaning, no_record}
use Rattle.run.specs.Calls.{Reply, taken, command, run_ended, refused, Done}
use Rattle.reader.specs.declared.reader.Reader.{Reader}
use Rattle.reader.specs.declared.reader.Phase.{Phase as CodePhase}
use Rattle.reader.specs.declared.reader.Phase.TheVariants.{Ready, AwaitsOptions, AwaitsRecord, AwaitsCryptogram, Ended}
use Rattle.reader.specs.declared.reader.Step.{Step}
use Rattle.reader.specs.declared.reader.Step.TheVariants.{Taken, Command, Ended as RunEnded}

-- the records still to be read come after the one at `at`
abbrev pub phase_meant : CodePhase → List Record → ℕ → ℕ → Phase
phase_meant Ready rs at n = ready
phase_meant AwaitsOptions rs at n = awaits_options
phase_meant AwaitsRecord rs at n = awaits_record (slice_index_or rs at no_record) (drop (at + 1) (take n rs))
phase_meant (AwaitsCryptogram c) rs at n = awaits_cryptogram c
phase_meant (Ended o) rs at n = ended o

-- what the store can hold
abbrev pub limits_of : {S : Type 0} → Ghosts S → S → Limits
limits_of store s = record { objects = store.objects s; bytes = store.bytes s }

abbrev pub meaning : {S : Type 0} → Ghosts S → Reader S → Meaning
meaning store r = record {
  opened = r.opened;
  limits = limits_of store r.store;
  shares = r.shares;
  held = store.held r.store;
  begun = r.begun;
  phase = phase_meant r.phase r.records r.at r.len;
  count = r.count;
}

-- what a call answered, with what its command buffer holds then
abbrev pub told : Result Step Refusal → List ℕ → Reply
told (Ok Taken) buffer = taken
told (Ok (Command n)) buffer = command (take n buffer)
told (Ok RunEnded) buffer = run_ended
told (Err e) buffer = refused e

-- what the command buffer holds after a reply: a command at its front, the rest as it was; without a command all as it was
abbrev pub buffered : Reply → List ℕ → List ℕ
buffered taken old = old
buffered (command bs) old = bs ++ drop (length bs) old
buffered run_ended old = old
buffered (refused e) old = old

abbrev pub done : Reply → Meaning → Done
done r m = record { reply = r; after = m }

-- how many bytes of the buffer a step has written
abbrev pub step_length : Step → ℕ
step_length Taken = 0
step_length (Command n) = n
step_length RunEnded = 0
