-- The law of isolation, as each call brings it, and what an opening brings.
use Rattle.std.specs.Prelude.{◌≡◌, ℕ, List, [], IfOk, Err, Result, OnOk}
use Rattle.keeping.specs.declared.shares.Shares.{Shares}
use Rattle.run.specs.declared.refusal.Refusal.{Refusal}
use Rattle.run.specs.State.{Meaning}
use Rattle.run.specs.Calls.{Call, Reply, open_call, configured}
use Rattle.run.specs.Law.{Roomy, Does, Lawful, Stands}
use Rattle.reader.specs.declared.reader.Step.{Step}
use Rattle.reader.specs.declared.reader.Step.TheVariants.{Taken}
use Rattle.reader.specs.Meanings.{told, done}

-- A call that does what its definition says wherever the store has room is lawful.
abbrev pub LawOfCalls : Type 0
LawOfCalls = (b a : Meaning) (c : Call) (r : Reply) → (Roomy b → Does b c r a) → Lawful b c r a

-- A reader that was opened, as the definition of opening says, stands, with no call made of it yet.
abbrev pub OpenedStands : Type 0
OpenedStands =
    (b a : Meaning) (r : Result Step Refusal) (shares : Shares) (text : List ℕ) (work : ℕ) →
    done (told r []) a ≡ open_call b shares text work → OnOk r (Stands (configured shares text) [] a)

-- An opening hands no command out, and ends no run.
abbrev pub OpenedTaken : Type 0
OpenedTaken =
    (b a : Meaning) (r : Result Step Refusal) (shares : Shares) (text : List ℕ) (work : ℕ) →
    done (told r []) a ≡ open_call b shares text work → IfOk r (λ s. s ≡ Taken)

-- An opening that was refused changes nothing.
abbrev pub RefusedOpening : Type 0
RefusedOpening =
    (b a : Meaning) (r : Result Step Refusal) (shares : Shares) (text : List ℕ) (work : ℕ) →
    done (told r []) a ≡ open_call b shares text work → (e : Refusal) → r ≡ Err e → a ≡ b
