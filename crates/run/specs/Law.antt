-- The law of isolation.
use Rattle.std.specs.Prelude.{◌≡◌, ℕ, ◌+◌, ◌≤◌, true, ◌∷◌, length}
use Rattle.keeping.specs.Own.{SameOwn}
use Rattle.keeping.specs.Room as room
use Rattle.run.specs.State.{Meaning, Phase, ready, awaits_options, awaits_record, awaits_cryptogram, ended, waits}
use Rattle.run.specs.Calls.{Call, Reply, Config, start, step}
use Rattle.run.specs.History.{History, turn, calls, commands, since, replies_taken, one_if, command_waits, run_commands, run_to}
use Rattle.run.specs.Account.{Account, account, answers, own_calls, own_replies, Alike}

-- The reader's own objects, its begun mark and the terminal's share are those of an account.
pub record Agrees (m : Meaning) (a : Account) : Type 0 where
  pub objects : SameOwn m.held a.objects
  pub begun : m.begun ≡ a.begun
  pub share : m.shares.terminal ≡ a.share

-- The reader's own objects, and its replies to the terminal's own calls, are those of the account, which sees no byte of a card.
pub record Accounted (config : Config) (past : History) (m : Meaning) : Type 0 where
  pub agrees : Agrees m (account config (own_calls (calls past)))
  pub replies : own_replies past ≡ answers config (own_calls (calls past))

-- The commands handed out are those of the run over the whole list of calls, the card's bytes included, from opening on.
pub record Runs (config : Config) (past : History) (m : Meaning) : Type 0 where
  pub led : m ≡ run_to (start config m.limits) (calls past)
  pub handed : commands past ≡ run_commands (start config m.limits) (calls past)

-- how many more commands a phase can lead to
abbrev pub left : Phase → ℕ
left ready = 0
left awaits_options = 65
left (awaits_record r rs) = length rs + 1
left (awaits_cryptogram c) = 0
left (ended o) = 0

-- The count told is the number of commands since the last begin taken or clear; each was answered, stopped or failed on
-- the link, but for the one that waits.
pub record Counted (past : History) (m : Meaning) : Type 0 where
  pub told : m.count ≡ length (commands (since past))
  pub paired : m.count ≡ replies_taken (since past) + one_if (command_waits past)
  pub few : m.count + left m.phase ≤ 66
  pub waiting : waits m.phase ≡ command_waits past

-- The store has room for what the reader holds and may write, so that no put is refused.
abbrev pub Roomy : Meaning → Type 0
Roomy m = room.Roomy m.shares m.limits.objects m.limits.bytes m.held

-- A reader that was opened with this configuration stands after these turns.
pub record Stands (config : Config) (past : History) (m : Meaning) : Type 0 where
  pub is_open : m.opened ≡ true
  pub accounted : Accounted config past m
  pub counted : Counted past m
  pub runs : Runs config past m
  pub roomy : Roomy m

-- Two readers that no card's bytes tell apart by what is the terminal's.
pub record Same (past past' : History) (m m' : Meaning) : Type 0 where
  pub objects : SameOwn m.held m'.held
  pub replies : own_replies past ≡ own_replies past'

-- Whatever another reader over a store of any make went through: where the terminal did the same there, the two are the same.
abbrev pub Isolated : Config → History → Meaning → Type 0
Isolated config past m =
    (past' : History) (m' : Meaning) →
    Stands config past' m' →
    Alike (calls past) (calls past') →
    Same past past' m m'

-- It did what the call's definition says.
pub record Does (before : Meaning) (call : Call) (r : Reply) (after : Meaning) : Type 0 where
  pub replied : r ≡ (step before call).reply
  pub moved : after ≡ (step before call).after

-- What every call keeps, whatever came before: its reader goes on standing, and no other reader whose terminal did the same can be
-- told from it by what is the terminal's.
pub record Lawful (before : Meaning) (call : Call) (r : Reply) (after : Meaning) : Type 0 where
  pub stands : (config : Config) (past : History) → Stands config past before → Stands config (turn call r ∷ past) after
  pub isolated : (config : Config) (past : History) → Stands config past before → Isolated config (turn call r ∷ past) after
