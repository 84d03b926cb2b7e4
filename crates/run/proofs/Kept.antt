-- What a call keeps of the account and of the count, whichever call it is.
use Rattle.std.proofs.Common.{◌≡◌, ℕ, Bool, true, false, cond, not, ltb, List, Some, None, Option, refl, ap, ◌∙◌, subst, ap₂, arith}
use Rattle.std.proofs.lemmas.Bool.Decides.{nat_tests}
use Rattle.dictionary.specs.declared.entry.Entry.{Entry}
use Rattle.dictionary.specs.declared.entry.Writer.{Writer}
use Rattle.dictionary.specs.declared.entry.Writer.TheVariants.{Configuration, TerminalBeforeBegin, Terminal, Card, Reader}
use Rattle.dictionary.specs.Dictionary.{dictionary, entry_of}
use Rattle.tlv.specs.Series.{meaning}
use Rattle.store.specs.Map.{Map}
use Rattle.judge.specs.declared.kind.TextKind.TheVariants.{TerminalWrite}
use Rattle.judge.specs.Writers.{by_writer}
use Rattle.judge.specs.Rules.{listed_and}
use Rattle.judge.proofs.Holding.{own_judged}
use Rattle.keeping.specs.Keeping.{places_read, stored_text}
use Rattle.keeping.specs.Own.{own_writer, SameOwn}
use Rattle.keeping.specs.Clearing.{stays, cleared}
use Rattle.run.specs.declared.refusal.Refusal.{Refusal}
use Rattle.run.specs.declared.refusal.Refusal.TheVariants.{NotOpen, OverShare, Begun, NoCommand}
use Rattle.run.specs.Numbers.{indication_of, no_error}
use Rattle.run.specs.State.{waits, Meaning}
use Rattle.run.specs.Run.{Course, hands_out, fails, comes_to}
use Rattle.run.specs.Calls.{Done, first, refuse_if, checked, not_open, no_command, short_list, short_memory, on_judgement, own_refusal, write_refusal, needed_tags, needs, begin_refusal, follow}
use Rattle.run.specs.Account.{Account, OwnCall, verdict, take, fed, unless_refused, without_terminal, refusal_of}
use Rattle.run.specs.Law.{Agrees}
use Rattle.run.proofs.Maps.{stored_agree, total_agree, terminal_own, missing_agree}
use Rattle.run.proofs.Putting.{indication_own}
use Rattle.run.proofs.Courses.{Sane}

-- What a reader was opened with stays.
pub record Fixed (b a : Meaning) : Type 0 where
  pub opened : a.opened ≡ b.opened
  pub limits : a.limits ≡ b.limits
  pub shares : a.shares ≡ b.shares

pub fixed_follow : (b : Meaning) (c : Course) → Fixed b (follow b c).after
fixed_follow b (hands_out bs phase held) = record { opened = refl; limits = refl; shares = refl }
fixed_follow b (fails c held) = record { opened = refl; limits = refl; shares = refl }
fixed_follow b (comes_to o held) = record { opened = refl; limits = refl; shares = refl }

pub fixed_checked : (o : Option Refusal) (b : Meaning) (next : Done) → Fixed b next.after → Fixed b (checked o b next).after
fixed_checked None b next f = f
fixed_checked (Some e) b next f = record { opened = refl; limits = refl; shares = refl }

-- Checks that come before others.
pub first_last : (x y : Option Refusal) → first x y ≡ None → y ≡ None
first_last None y h = h
first_last (Some e) y h = grind (arith, nat_tests, h)

pub first_first : (x y : Option Refusal) → first x y ≡ None → x ≡ None
first_first None y h = refl
first_first (Some e) y h = h

pub opened_first : (b : Meaning) (x : Option Refusal) → b.opened ≡ true → first (not_open b) x ≡ x
opened_first b x o = ap (λ v. first (refuse_if (not v) NotOpen) x) o

pub command_there : (b : Meaning) → no_command b ≡ None → waits b.phase ≡ true
command_there b h = by (waits b.phase) h
  where
    by : (v : Bool) → refuse_if (not v) NoCommand ≡ None → v ≡ true
    by true h' = refl
    by false h' = grind (arith, nat_tests, h')

-- The account, fed with a call that the reader answers as it does.
pub fed_checked : (o : Option Refusal) (b : Meaning) (next : Done) (a : Account) (c : OwnCall) → o ≡ verdict a c → Agrees b a → Agrees next.after (take a c) → Agrees (checked o b next).after (fed a c)
unfolding fed
fed_checked None b next a c is before after =
    let same : take a c ≡ unless_refused (verdict a c) a (take a c) = ap (λ v. unless_refused v a (take a c)) is in
    subst (Agrees next.after) same after
fed_checked (Some e) b next a c is before after =
    let same : a ≡ unless_refused (verdict a c) a (take a c) = ap (λ v. unless_refused v a (take a c)) is in
    subst (Agrees b) same before

pub told_checked : (o : Option Refusal) (b : Meaning) (next : Done) → refusal_of next.reply ≡ None → refusal_of (checked o b next).reply ≡ o
told_checked None b next h = h
told_checked (Some e) b next h = refl

pub agrees_checked : (o : Option Refusal) (b : Meaning) (next : Done) (a : Account) → Agrees b a → Agrees next.after a → Agrees (checked o b next).after a
agrees_checked None b next a before after = after
agrees_checked (Some e) b next a before after = before

-- The card's course leaves what the account has.
pub agrees_follow : (b : Meaning) (c : Course) (n : ℕ) (a : Account) → Sane b.shares.card b.held n c → Agrees b a → Agrees (follow b c).after a
agrees_follow b (hands_out bs phase held) n a s g = record { objects = λ t o. s.keeps.own t o ∙ g.objects t o; begun = g.begun; share = g.share }
agrees_follow b (fails c held) n a s g = record { objects = λ t o. indication_own held (Some (indication_of c)) t o ∙ s.own t o ∙ g.objects t o; begun = g.begun; share = g.share }
agrees_follow b (comes_to r held) n a s g = record { objects = λ t o. indication_own held (Some no_error) t o ∙ s.own t o ∙ g.objects t o; begun = g.begun; share = g.share }

-- Own calls are answered alike where own objects are the same.
pub written_same : (m m' : Map) (text : List ℕ) → SameOwn m m' → SameOwn (stored_text text m) (stored_text text m')
written_same m m' text same = λ t o. stored_agree text (places_read (meaning text)) m m' t (same t o)

own_refusal_same : (begun : Bool) (share : ℕ) (m m' : Map) (text : List ℕ) → SameOwn m m' → own_refusal (TerminalWrite begun) share m text ≡ own_refusal (TerminalWrite begun) share m' text
own_refusal_same begun share m m' text same =
    ap₂ (λ j n. on_judgement j (refuse_if (ltb share n) OverShare)) (own_judged (TerminalWrite begun) refl m m' text)
    (total_agree (TerminalWrite begun) (stored_text text m) (stored_text text m') (λ t h. written_same m m' text same t (terminal_own begun t h)))

pub write_same : (share : ℕ) (m m' : Map) (begun : Bool) (text : List ℕ) (work : ℕ) → SameOwn m m' → write_refusal share m begun text work ≡ write_refusal share m' begun text work
write_same share m m' begun text work same = ap (first (short_list work)) (own_refusal_same begun share m m' text same)

pub begin_same : (m m' : Map) (begun : Bool) (buffer work : ℕ) → SameOwn m m' → begin_refusal m begun buffer work ≡ begin_refusal m' begun buffer work
unfolding entry_of dictionary
begin_same m m' begun buffer work same =
    ap (λ o. first (short_memory buffer work) (first (refuse_if begun Begun) (needs o))) (missing_agree needed_tags m m' refl same)

cleared_by : (x : Option Entry) (o o' : Option (List ℕ)) → listed_and x (λ e. own_writer e.writer) ≡ true → o ≡ o' → stays o x ≡ cond (listed_and x (λ e. by_writer false true true false false e.writer)) None o'
cleared_by None o o' h e = e
cleared_by (Some x) o o' h e = by x.writer h
  where
    by : (w : Writer) → own_writer w ≡ true → by_writer o None None None None w ≡ cond (by_writer false true true false false w) None o'
    by Configuration h' = e
    by TerminalBeforeBegin h' = refl
    by Terminal h' = refl
    by Card h' = grind (arith, nat_tests, h')
    by Reader h' = grind (arith, nat_tests, h')

pub cleared_same : (m m' : Map) → SameOwn m m' → SameOwn (cleared m) (without_terminal m')
unfolding without_terminal
cleared_same m m' same = λ t o. cleared_by (entry_of t) (m t) (m' t) o (same t o)
