-- What was asked of a reader and what it replied, and two readers side by side.
use Rattle.std.specs.Prelude.{◌≡◌, ℕ, min, List, [], ◌∷◌, length, take, Some, None, Ok, Err, Option, Result}
use Rattle.keeping.specs.declared.shares.Shares.{Shares}
use Rattle.keeping.specs.Own.{SameOwn}
use Rattle.run.specs.declared.refusal.Refusal.{Refusal}
use Rattle.run.specs.State.{Meaning}
use Rattle.run.specs.Calls.{Call, write, begin, answer, link_fault, stop, clear, Reply, taken, command, run_ended, refused, Config, configured, open_call}
use Rattle.run.specs.History.{History, turn, calls}
use Rattle.run.specs.Account.{Alike}
use Rattle.run.specs.Law.{Stands, Lawful}
use Rattle.reader.specs.declared.reader.Step.{Step}
use Rattle.reader.specs.declared.reader.Step.TheVariants.{Taken, Command, Ended}
use Rattle.isolation.specs.declared.call.Asked.{Asked}
use Rattle.isolation.specs.Asked.{asks, latest}

-- a reply as it is handed back: of a command its length
abbrev pub handed_back : Reply → Result Step Refusal
handed_back taken = Ok Taken
handed_back (command bytes) = Ok (Command (length bytes))
handed_back run_ended = Ok Ended
handed_back (refused e) = Err e

-- what was replied, the latest first
unfoldable pub replies : History → List (Result Step Refusal)
replies [] = []
replies (turn c r ∷ past) = handed_back r ∷ replies past

-- A call was answered lawfully, with a reply that is handed back so.
pub record Answered (before : Meaning) (c : Call) (r : Result Step Refusal) (after : Meaning) : Type 0 where
  pub reply : Reply
  pub back : handed_back reply ≡ r
  pub law : Lawful before c reply after

-- A reader that was opened with this configuration, of which exactly these calls were made, with these replies, stands after
-- them.
pub record Went (config : Config) (cs : List Call) (rs : List (Result Step Refusal)) (m : Meaning) : Type 0 where
  pub past : History
  pub these : calls past ≡ cs
  pub replied : replies past ≡ rs
  pub stands : Stands config past m

-- the refusal that is handed back, none where the call was taken
abbrev pub refusal_in : Result Step Refusal → Option Refusal
refusal_in (Ok s) = None
refusal_in (Err e) = Some e

-- of calls and their replies those of the terminal's own: writes, begins and clears
abbrev pub own_replied : List Call → List (Result Step Refusal) → List (Option Refusal)
own_replied [] rs = []
own_replied (c ∷ cs) [] = []
own_replied (write text work ∷ cs) (r ∷ rs) = refusal_in r ∷ own_replied cs rs
own_replied (begin fci buffer work ∷ cs) (r ∷ rs) = refusal_in r ∷ own_replied cs rs
own_replied (answer bytes buffer work ∷ cs) (r ∷ rs) = own_replied cs rs
own_replied (link_fault code ∷ cs) (r ∷ rs) = own_replied cs rs
own_replied (stop ∷ cs) (r ∷ rs) = own_replied cs rs
own_replied (clear ∷ cs) (r ∷ rs) = refusal_in r ∷ own_replied cs rs

-- a reader's opening, the calls made of it after that, and the lengths of the buffer and the work list
pub record Session : Type 0 where
  pub shares : Shares
  pub text : List ℕ
  pub buffer : ℕ
  pub work : ℕ
  pub asked : List Asked

abbrev pub session : Shares → List ℕ → ℕ → ℕ → List Asked → Session
session shares text buffer work asked = record { shares = shares; text = text; buffer = buffer; work = work; asked = asked }

-- the first n calls of a session, the latest first
abbrev pub made : Session → ℕ → List Call
made s n = latest (asks s.buffer s.work) (take n s.asked) []

-- the first n replies, the latest first
abbrev pub given : List (Result Step Refusal) → ℕ → List (Result Step Refusal)
given rs n = latest (λ r. r) (take n rs) []

-- What a session comes to, with a list of replies: as many calls are made as there are places for replies, and the reader stands
-- after them; or the opening is refused, and nothing changes.
abbrev pub CameTo : Session → Meaning → Result ℕ Refusal → List (Result Step Refusal) → Meaning → Type 0
CameTo s before (Ok n) rs after =
    ((open_call before s.shares s.text s.work).reply ≡ taken)
    × (n ≡ min (length s.asked) (length rs))
    × Went (configured s.shares s.text) (made s n) (given rs n) after
CameTo s before (Err e) rs after = ((open_call before s.shares s.text s.work).reply ≡ refused e) × (after ≡ before)

-- how many calls were made
abbrev pub calls_made : Result ℕ Refusal → ℕ
calls_made (Ok n) = n
calls_made (Err e) = 0

-- The law of isolation over two sessions that were opened: where the terminal asked the same of both readers, they hold the same
-- objects of our own, and gave the terminal's own calls the same replies.
abbrev pub Isolated : Session → Session → Result ℕ Refusal → Result ℕ Refusal → List (Result Step Refusal) → List (Result Step Refusal) → Meaning → Meaning → Type 0
Isolated s s' (Ok n) (Ok k) rs rs' m m' =
    Alike (made s n) (made s' k) →
    SameOwn m.held m'.held × (own_replied (made s n) (given rs n) ≡ own_replied (made s' k) (given rs' k))
Isolated s s' (Ok n) (Err e) rs rs' m m' = Unit {0}
Isolated s s' (Err e) (Ok n) rs rs' m m' = Unit {0}
Isolated s s' (Err e) (Err e') rs rs' m m' = Unit {0}
