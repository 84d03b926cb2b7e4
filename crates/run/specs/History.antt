-- What was asked of a reader since it was opened, and what it replied.
use Rattle.std.specs.Prelude.{ℕ, ◌+◌, Bool, true, false, cond, List, [], ◌∷◌}
use Rattle.run.specs.State.{Meaning}
use Rattle.run.specs.Calls.{Call, write, begin, answer, link_fault, stop, clear, Reply, taken, command, run_ended, refused, step}

-- a call with its reply
pub data Turn : Type 0 where
  turn : Call → Reply → Turn

-- all turns since opening, the latest first
abbrev pub History : Type 0
History = List Turn

-- what was asked, the latest first
unfoldable pub calls : History → List Call
calls [] = []
calls (turn c r ∷ past) = c ∷ calls past

-- the call was not refused
abbrev pub accepted : Reply → Bool
accepted taken = true
accepted (command bytes) = true
accepted run_ended = true
accepted (refused e) = false

-- the call handed a command out
abbrev pub handed_out : Reply → Bool
handed_out taken = false
handed_out (command bytes) = true
handed_out run_ended = false
handed_out (refused e) = false

-- the command that a reply hands out, before others
abbrev pub also_command : Reply → List (List ℕ) → List (List ℕ)
also_command taken cs = cs
also_command (command bytes) cs = bytes ∷ cs
also_command run_ended cs = cs
also_command (refused e) cs = cs

-- one where it holds, else none
abbrev pub one_if : Bool → ℕ
one_if b = cond b 1 0

-- the commands handed out in some turns, the latest first
unfoldable pub commands : History → List (List ℕ)
commands [] = []
commands (turn c r ∷ past) = also_command r (commands past)

-- the turns since the last begin that was taken, that one among them, or since the last clear
unfoldable pub since : History → History
since [] = []
since (turn (write text work) r ∷ past) = turn (write text work) r ∷ since past
since (turn (begin fci buffer work) r ∷ past) = turn (begin fci buffer work) r ∷ cond (accepted r) [] (since past)
since (turn (answer bytes buffer work) r ∷ past) = turn (answer bytes buffer work) r ∷ since past
since (turn (link_fault code) r ∷ past) = turn (link_fault code) r ∷ since past
since (turn stop r ∷ past) = turn stop r ∷ since past
since (turn clear r ∷ past) = cond (accepted r) [] (turn clear r ∷ since past)

-- how many answers, link faults and stops were taken in some turns
unfoldable pub replies_taken : History → ℕ
replies_taken [] = 0
replies_taken (turn (write text work) r ∷ past) = replies_taken past
replies_taken (turn (begin fci buffer work) r ∷ past) = replies_taken past
replies_taken (turn (answer bytes buffer work) r ∷ past) = one_if (accepted r) + replies_taken past
replies_taken (turn (link_fault code) r ∷ past) = one_if (accepted r) + replies_taken past
replies_taken (turn stop r ∷ past) = one_if (accepted r) + replies_taken past
replies_taken (turn clear r ∷ past) = replies_taken past

-- a command waits: the last begin, answer, link fault, stop or clear that was taken handed one out
unfoldable pub command_waits : History → Bool
command_waits [] = false
command_waits (turn (write text work) r ∷ past) = command_waits past
command_waits (turn (begin fci buffer work) r ∷ past) = cond (accepted r) (handed_out r) (command_waits past)
command_waits (turn (answer bytes buffer work) r ∷ past) = cond (accepted r) (handed_out r) (command_waits past)
command_waits (turn (link_fault code) r ∷ past) = cond (accepted r) (handed_out r) (command_waits past)
command_waits (turn stop r ∷ past) = cond (accepted r) (handed_out r) (command_waits past)
command_waits (turn clear r ∷ past) = cond (accepted r) (handed_out r) (command_waits past)

-- The run over a list of calls, the latest first, from a reader on: where it leads.
unfoldable pub run_to : Meaning → List Call → Meaning
run_to m [] = m
run_to m (c ∷ cs) = (step (run_to m cs) c).after

-- The commands that it hands out, the latest first.
unfoldable pub run_commands : Meaning → List Call → List (List ℕ)
run_commands m [] = []
run_commands m (c ∷ cs) = also_command (step (run_to m cs) c).reply (run_commands m cs)
