-- What holds of every course that a card's bytes can take the run: our objects stay, the store keeps its room, and the
-- commands left grow fewer. Assumes nothing.
use Rattle.std.proofs.Common.{◌≡◌, ℕ, ◌+◌, ◌≤◌, Bool, true, false, cond, ◌&&◌, ltb, leb, List, [], ◌∷◌, length, get_or, Some, None, Ok, Err, Option, Result, sym, refl, ◌∙◌, subst, arith}
use Rattle.std.proofs.lemmas.Bool.Decides.{nat_tests}
use Rattle.std.proofs.lemmas.Bool.{ltb-false}
use Rattle.keyed.specs.declared.record.Record.{Record}
use Rattle.tlv.specs.Series.{meaning}
use Rattle.store.specs.Map.{Map, empty}
use Rattle.judge.specs.declared.fault.ObjectFault.{ObjectFault}
use Rattle.judge.specs.declared.kind.TextKind.TheVariants.{CardAnswer}
use Rattle.judge.specs.Judge.{judged}
use Rattle.keeping.specs.declared.shares.Shares.{Shares}
use Rattle.keeping.specs.Keeping.{places_read, stored_text}
use Rattle.keeping.specs.Shares.{writer_total}
use Rattle.keeping.specs.Own.{SameOwn}
use Rattle.keeping.specs.Room.{Roomy}
use Rattle.keeping.proofs.Kept.{roomy_stored}
use Rattle.decision.specs.declared.cryptogram.Cryptogram.{Cryptogram}
use Rattle.decision.specs.declared.cryptogram.WrongCryptogram.{WrongCryptogram}
use Rattle.decision.specs.Decision.{results}
use Rattle.decision.specs.Cryptograms as cryptograms
use Rattle.afl.specs.Afl.{records_of, named, well_made, distinct}
use Rattle.commands.specs.declared.instruction.CommandFault.{CommandFault}
use Rattle.commands.specs.Commands.{bytes, options_command, generate_command}
use Rattle.run.specs.declared.fault.Cause.{Cause}
use Rattle.run.specs.declared.fault.Cause.TheVariants.{WrongSize, OverCardShare}
use Rattle.run.specs.State.{Phase, ready, awaits_options, awaits_record, awaits_cryptogram, ended, waits}
use Rattle.run.specs.Run.{Course, hands_out, fails, comes_to, unless, cause_if, missing, first_missing, one_object, outer_cause, judged_text, card_text, options_with, after_fci, longest_fci, begins, first_record, after_options, verified, decision, generates, decides, after_record, gives, after_cryptogram, wrong_size, bad_status, answer_text, text_of, answered}
use Rattle.run.specs.Law.{left}
use Rattle.run.proofs.Maps.{accepted_places, card_text_apart}
use Rattle.run.proofs.Putting.{results_own, results_roomy}

-- Our objects stay, and a store that has room still has it, the card's share being this.
pub record Keeps (share : ℕ) (held after : Map) : Type 0 where
  pub own : SameOwn after held
  pub roomy : (s : Shares) (o b : ℕ) → s.card ≡ share → Roomy s o b held → Roomy s o b after

pub stay : (share : ℕ) (held : Map) → Keeps share held held
stay share held = record { own = λ t o. refl; roomy = λ s o b e r. r }

keeps_from : (share : ℕ) (held held' after : Map) → Keeps share held held' → Keeps share held' after → Keeps share held after
keeps_from share held held' after k k' = record { own = λ t o. k'.own t o ∙ k.own t o; roomy = λ s o b e r. k'.roomy s o b e (k.roomy s o b e r) }

pub record Handed (share : ℕ) (held : Map) (n : ℕ) (phase : Phase) (after : Map) : Type 0 where
  pub keeps : Keeps share held after
  pub waiting : waits phase ≡ true
  pub fewer : left phase + 1 ≤ n

-- from a map, under the card's share, with at most n commands ahead
abbrev pub Sane : ℕ → Map → ℕ → Course → Type 0
Sane share held n (hands_out bs phase after) = Handed share held n phase after
Sane share held n (fails c after) = Keeps share held after
Sane share held n (comes_to o after) = Keeps share held after

sane_from : (share : ℕ) (held held' : Map) (n : ℕ) (c : Course) → Keeps share held held' → Sane share held' n c → Sane share held n c
sane_from share held held' n (hands_out bs phase after) k s = record { keeps = keeps_from share held held' after k s.keeps; waiting = s.waiting; fewer = s.fewer }
sane_from share held held' n (fails c after) k s = keeps_from share held held' after k s
sane_from share held held' n (comes_to r after) k s = keeps_from share held held' after k s

either : (share : ℕ) (held : Map) (n : ℕ) (b : Bool) (x y : Course) → Sane share held n x → Sane share held n y → Sane share held n (cond b x y)
either share held n true x y s s' = s
either share held n false x y s s' = s'

sane_unless : (share : ℕ) (held : Map) (n : ℕ) (o : Option Cause) (c : Course) → Sane share held n c → Sane share held n (unless o held c)
sane_unless share held n None c s = s
sane_unless share held n (Some cause) c s = stay share held

-- what the card puts, within its share
keeps_stored : (share : ℕ) (held : Map) (text : List ℕ) → judged CardAnswer held text ≡ Ok tt → writer_total CardAnswer (stored_text text held) ≤ share → Keeps share held (stored_text text held)
keeps_stored share held text a within = record {
  own = card_text_apart held text a;
  roomy = λ s o b e r. roomy_stored s o b CardAnswer held text (places_read (meaning text)) (accepted_places CardAnswer held text a) (subst (λ n. writer_total CardAnswer (stored_text text held) ≤ n) (sym e) within) r;
}

sane_text : (outer share : ℕ) (held : Map) (text : List ℕ) (next : Map → Map → Course) (n : ℕ) → ((h brought : Map) → Sane share h n (next h brought)) → Sane share held n (card_text outer share held text next)
unfolding card_text
sane_text outer share held text next n goes =
    either share held n (one_object outer text) (judged_text share held text next (judged CardAnswer held text)) (fails (outer_cause (meaning text)) held)
    (by (judged CardAnswer held text) refl) (stay share held)
  where
    stores : (v : Bool) → judged CardAnswer held text ≡ Ok tt → ltb share (writer_total CardAnswer (stored_text text held)) ≡ v → Sane share held n (cond v (fails OverCardShare held) (next (stored_text text held) (stored_text text empty)))
    stores true a is = stay share held
    stores false a is =
        let within : writer_total CardAnswer (stored_text text held) ≤ share = omega (arith, ltb-false, is) in
        sane_from share held (stored_text text held) n (next (stored_text text held) (stored_text text empty)) (keeps_stored share held text a within) (goes (stored_text text held) (stored_text text empty))

    by : (r : Result (Unit {0}) ObjectFault) → judged CardAnswer held text ≡ r → Sane share held n (judged_text share held text next r)
    by (Err f) is = stay share held
    by (Ok tt) is = stores (ltb share (writer_total CardAnswer (stored_text text held))) is refl

sane_fci : (share : ℕ) (held brought : Map) → Sane share held 66 (after_fci held brought)
unfolding after_fci
sane_fci share held brought = by (options_command held)
  where
    by : (d : Result (List ℕ) CommandFault) → Sane share held 66 (options_with held d)
    by (Err e) = stay share held
    by (Ok ds) = record { keeps = stay share held; waiting = refl; fewer = omega arith }

pub sane_begins : (share : ℕ) (held : Map) (fci : List ℕ) → Sane share held 66 (begins share held fci)
unfolding begins
sane_begins share held fci = sane_unless share held 66 (cause_if (ltb longest_fci (length fci)) WrongSize) (card_text 0x6F share held fci after_fci) (sane_text 0x6F share held fci after_fci 66 (sane_fci share))

few_records : (bs : List ℕ) (rs : List Record) → records_of bs ≡ Some rs → length rs ≤ 64
unfolding records_of
few_records bs rs h = by (well_made bs) (leb (length (named bs)) 64) (distinct (named bs)) refl h
  where
    by : (x y z : Bool) → leb (length (named bs)) 64 ≡ y → cond (x && (y && z)) (Some (named bs)) None ≡ Some rs → length rs ≤ 64
    by false y z is g = grind (arith, nat_tests, g)
    by true false z is g = grind (arith, nat_tests, g)
    by true true false is g = grind (arith, nat_tests, g)
    by true true true is g = grind (arith, nat_tests, is, g)

sane_options : (share : ℕ) (held brought : Map) → Sane share held 65 (after_options held brought)
unfolding after_options
sane_options share held brought = sane_unless share held 65 (missing (first_missing (0x82 ∷ 0x94 ∷ []) brought)) (first_record held (records_of (bytes (brought 0x94)))) (by (records_of (bytes (brought 0x94))) refl)
  where
    by : (o : Option (List Record)) → records_of (bytes (brought 0x94)) ≡ o → Sane share held 65 (first_record held o)
    by None is = stay share held
    by (Some []) is = stay share held
    by (Some (r ∷ rs)) is =
        let few : length (r ∷ rs) ≤ 64 = few_records (bytes (brought 0x94)) (r ∷ rs) is in
        record { keeps = stay share held; waiting = refl; fewer = omega (arith, few) }

sane_generates : (share : ℕ) (c : Cryptogram) (held : Map) (d : Result (List ℕ) CommandFault) → Sane share held 1 (generates c held d)
sane_generates share c held (Err e) = stay share held
sane_generates share c held (Ok ds) = record { keeps = stay share held; waiting = refl; fewer = omega arith }

keeps_verified : (share : ℕ) (held : Map) → Keeps share held (verified held)
keeps_verified share held =
    let v : List ℕ = results (bytes (held 0x9F02)) (bytes (held 0xDF_8123)) in
    record { own = results_own held (Some v); roomy = λ s o b e r. results_roomy s o b held v (omega arith) r }

sane_record : (share : ℕ) (rs : List Record) (held brought : Map) → Sane share held (length rs + 1) (after_record rs held brought)
unfolding after_record
sane_record share (r ∷ rs) held brought = record { keeps = stay share held; waiting = refl; fewer = omega arith }
sane_record share [] held brought = sane_unless share held 1 (missing (first_missing (0x5A ∷ 0x5F24 ∷ []) held)) (decides (verified held))
    (sane_from share held (verified held) 1 (decides (verified held))
    (keeps_verified share held)
    (sane_generates share (decision (verified held)) (verified held) (generate_command (decision (verified held)) (verified held))))

sane_gives : (share : ℕ) (held : Map) (given : Result Cryptogram WrongCryptogram) → Sane share held 0 (gives held given)
sane_gives share held (Err e) = stay share held
sane_gives share held (Ok c) = stay share held

sane_cryptogram : (share : ℕ) (requested : Cryptogram) (held brought : Map) → Sane share held 0 (after_cryptogram requested held brought)
unfolding after_cryptogram
sane_cryptogram share requested held brought =
    sane_unless share held 0 (missing (first_missing (0x9F27 ∷ 0x9F36 ∷ 0x9F26 ∷ []) brought))
    (gives held (cryptograms.answered requested (get_or (bytes (brought 0x9F27)) 0 0)))
    (sane_gives share held (cryptograms.answered requested (get_or (bytes (brought 0x9F27)) 0 0)))

pub sane_answered : (phase : Phase) (share : ℕ) (held : Map) (answer : List ℕ) → Sane share held (left phase) (answered phase share held answer)
unfolding answered
sane_answered phase share held answer =
    sane_unless share held (left phase) (wrong_size answer) (unless (bad_status answer) held (answer_text phase share held (text_of answer)))
    (sane_unless share held (left phase) (bad_status answer) (answer_text phase share held (text_of answer)) (by phase))
  where
    by : (p : Phase) → Sane share held (left p) (answer_text p share held (text_of answer))
    by ready = stay share held
    by awaits_options = sane_text 0x77 share held (text_of answer) after_options 65 (sane_options share)
    by (awaits_record r rs) = sane_text 0x70 share held (text_of answer) (after_record rs) (length rs + 1) (sane_record share rs)
    by (awaits_cryptogram c) = sane_text 0x77 share held (text_of answer) (after_cryptogram c) 0 (sane_cryptogram share c)
    by (ended o) = stay share held
