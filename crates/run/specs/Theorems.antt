-- The law over whole lists of calls, from opening on.
use Rattle.std.specs.Prelude.{◌≡◌, ℕ, ◌≤◌, List, [], ◌∷◌, length}
use Rattle.keeping.specs.declared.shares.Shares.{Shares}
use Rattle.run.specs.declared.refusal.Refusal.{Refusal}
use Rattle.run.specs.State.{Meaning}
use Rattle.run.specs.Calls.{Call, Reply, taken, refused, configured, step, open_call}
use Rattle.run.specs.History.{History, turn, commands, since, run_to}
use Rattle.run.specs.Account.{Alike}
use Rattle.run.specs.Law.{Stands, Same, Does, Lawful}

-- A reader that was opened with these shares and this configuration, over a store of any limits.
pub record Opened (shares : Shares) (text : List ℕ) (m : Meaning) : Type 0 where
  pub before : Meaning
  pub work : ℕ
  pub replied : (open_call before shares text work).reply ≡ taken
  pub is : m ≡ (open_call before shares text work).after

-- what a reader replies to these calls, the latest first
unfoldable pub turns : Meaning → List Call → History
turns m [] = []
turns m (c ∷ cs) = turn c (step (run_to m cs) c).reply ∷ turns m cs

-- Every call is lawful, whatever its bytes.
abbrev pub EveryCallIsLawful : Type 0
EveryCallIsLawful = (b a : Meaning) (c : Call) (r : Reply) → Does b c r a → Lawful b c r a

-- A refused call changes nothing.
abbrev pub RefusedCallsChangeNothing : Type 0
RefusedCallsChangeNothing = (m : Meaning) (c : Call) (e : Refusal) → (step m c).reply ≡ refused e → (step m c).after ≡ m

-- A reader that was opened stands.
abbrev pub OpeningStands : Type 0
OpeningStands = (shares : Shares) (text : List ℕ) (m : Meaning) → Opened shares text m → Stands (configured shares text) [] m

-- One whose opening was refused stays as it was.
abbrev pub RefusedOpeningChangesNothing : Type 0
RefusedOpeningChangesNothing =
    (m : Meaning) (shares : Shares) (text : List ℕ) (work : ℕ) (e : Refusal) →
    (open_call m shares text work).reply ≡ refused e → (open_call m shares text work).after ≡ m

-- After any list of calls a reader stands.
abbrev pub ReadersStand : Type 0
ReadersStand =
    (shares : Shares) (text : List ℕ) (m : Meaning) (cs : List Call) →
    Opened shares text m → Stands (configured shares text) (turns m cs) (run_to m cs)

-- Two readers opened with the same shares and configuration, over stores of any limits, whose calls differ only in a
-- begin's card bytes and in answers, link faults and stops: their own objects are equal, and so are their replies to the
-- terminal's own calls.
abbrev pub CardBytesNeverMoveOwnObjects : Type 0
CardBytesNeverMoveOwnObjects =
    (shares : Shares) (text : List ℕ) (m m' : Meaning) (xs ys : List Call) →
    Opened shares text m → Opened shares text m' → Alike xs ys →
    Same (turns m xs) (turns m' ys) (run_to m xs) (run_to m' ys)

-- No run hands out more than 66 commands.
abbrev pub AtMost66Commands : Type 0
AtMost66Commands =
    (shares : Shares) (text : List ℕ) (m : Meaning) (cs : List Call) →
    Opened shares text m → ((run_to m cs).count ≤ 66) × (length (commands (since (turns m cs))) ≤ 66)
