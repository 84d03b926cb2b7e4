-- The own-object account: the configuration's and the terminal's objects as the terminal's own calls alone make them. It never
-- sees a byte of a card.
use Rattle.std.specs.Prelude.{◌≡◌, ℕ, Bool, true, false, cond, List, [], ◌∷◌, Some, None, Option}
use Rattle.dictionary.specs.Dictionary.{entry_of}
use Rattle.store.specs.Map.{Map}
use Rattle.judge.specs.Writers.{by_writer}
use Rattle.judge.specs.Rules.{listed_and}
use Rattle.keeping.specs.Keeping.{stored_text}
use Rattle.run.specs.declared.refusal.Refusal.{Refusal}
use Rattle.run.specs.Calls.{Call, write, begin, answer, link_fault, stop, clear, Reply, taken, command, run_ended, refused, Config, write_refusal, begin_refusal}
use Rattle.run.specs.History.{History, turn}

-- a call of the terminal's own, with no byte of a card
pub data OwnCall : Type 0 where
  own_write : (text : List ℕ) (work : ℕ) → OwnCall
  own_begin : (buffer work : ℕ) → OwnCall
  own_clear : OwnCall

-- the own objects, the terminal's share and the begun mark
pub record Account : Type 0 where
  pub objects : Map
  pub share : ℕ
  pub begun : Bool

-- at opening: the configuration's objects, and the mark unset
abbrev pub opened : Config → Account
opened config = record { objects = config.objects; share = config.shares.terminal; begun = false }

-- no refusal: the call is taken
unfoldable pub verdict : Account → OwnCall → Option Refusal
verdict a (own_write text work) = write_refusal a.share a.objects a.begun text work
verdict a (own_begin buffer work) = begin_refusal a.objects a.begun buffer work
verdict a own_clear = None

-- the tag is the terminal's
abbrev pub terminal_tag : ℕ → Bool
terminal_tag t = listed_and (entry_of t) (λ e. by_writer false true true false false e.writer)

-- the account without the terminal's objects
unfoldable pub without_terminal : Map → Map
without_terminal objects = λ t. cond (terminal_tag t) None (objects t)

-- a write taken replaces its tags, a begin taken sets the mark, a clear drops the terminal's objects and the mark
unfoldable pub take : Account → OwnCall → Account
take a (own_write text work) = record { objects = stored_text text a.objects; share = a.share; begun = a.begun }
take a (own_begin buffer work) = record { objects = a.objects; share = a.share; begun = true }
take a own_clear = record { objects = without_terminal a.objects; share = a.share; begun = false }

-- a refused call changes nothing
abbrev pub unless_refused : Option Refusal → Account → Account → Account
unless_refused (Some e) a next = a
unless_refused None a next = next

-- one call more
unfoldable pub fed : Account → OwnCall → Account
fed a c = unless_refused (verdict a c) a (take a c)

-- after these calls, the latest first
unfoldable pub account : Config → List OwnCall → Account
account config [] = opened config
account config (c ∷ past) = fed (account config past) c

-- what the account answers, call by call
unfoldable pub answers : Config → List OwnCall → List (Option Refusal)
answers config [] = []
answers config (c ∷ past) = verdict (account config past) c ∷ answers config past

-- the terminal's own calls among all: answers, link faults and stops are left out, and a begin leaves its card's bytes behind
unfoldable pub own_calls : List Call → List OwnCall
own_calls [] = []
own_calls (write text work ∷ cs) = own_write text work ∷ own_calls cs
own_calls (begin fci buffer work ∷ cs) = own_begin buffer work ∷ own_calls cs
own_calls (answer bytes buffer work ∷ cs) = own_calls cs
own_calls (link_fault code ∷ cs) = own_calls cs
own_calls (stop ∷ cs) = own_calls cs
own_calls (clear ∷ cs) = own_clear ∷ own_calls cs

-- the refusal that a reply is, none where the call was taken
abbrev pub refusal_of : Reply → Option Refusal
refusal_of taken = None
refusal_of (command bytes) = None
refusal_of run_ended = None
refusal_of (refused e) = Some e

-- what the reader replied to these calls
unfoldable pub own_replies : History → List (Option Refusal)
own_replies [] = []
own_replies (turn (write text work) r ∷ past) = refusal_of r ∷ own_replies past
own_replies (turn (begin fci buffer work) r ∷ past) = refusal_of r ∷ own_replies past
own_replies (turn (answer bytes buffer work) r ∷ past) = own_replies past
own_replies (turn (link_fault code) r ∷ past) = own_replies past
own_replies (turn stop r ∷ past) = own_replies past
own_replies (turn clear r ∷ past) = refusal_of r ∷ own_replies past

-- the two differ only in a begin's card bytes and, in any way, in answers, link faults and stops
abbrev pub Alike : List Call → List Call → Type 0
Alike one other = own_calls one ≡ own_calls other
