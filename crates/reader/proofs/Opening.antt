-- What an opening brings.
use Rattle.std.proofs.Common.{◌≡◌, true, [], Some, None, Ok, Err, Option, sym, refl, ap, ◌∙◌, subst}
use Rattle.std.proofs.lemmas.Bool.{true≢false}
use Rattle.store.specs.Map.{count}
use Rattle.run.specs.declared.refusal.Refusal.{Refusal}
use Rattle.run.specs.State.{Meaning}
use Rattle.run.specs.Calls.{Reply, taken, command, run_ended, refused, checked, open_refusal, configured, start}
use Rattle.run.specs.History.{accepted}
use Rattle.run.proofs.Whole.{opens}
use Rattle.reader.specs.declared.reader.Step.{Step}
use Rattle.reader.specs.declared.reader.Step.TheVariants.{Taken, Command, Ended as RunEnded}
use Rattle.reader.specs.Bringing.{OpenedStands, OpenedTaken, RefusedOpening}
use Rattle.reader.specs.Meanings.{told}

-- a step that was taken is no refusal
accepts : (s : Step) → accepted (told (Ok s) []) ≡ true
accepts Taken = refl
accepts (Command n) = refl
accepts RunEnded = refl

-- what opening replies is a refusal or that it was taken
replies_taken_lem : (o : Option Refusal) (m n : Meaning) (s : Step) → told (Ok s) [] ≡ (checked o m (record { reply = taken; after = n })).reply → (checked o m (record { reply = taken; after = n })).reply ≡ taken
replies_taken_lem None m n s p = refl
replies_taken_lem (Some e) m n s p = absurd (true≢false (sym (accepts s) ∙ ap accepted p))

-- nothing but that it was taken replies so
IsTaken : Reply → Type 0
IsTaken taken = Unit {0}
IsTaken (command bs) = ⊥
IsTaken run_ended = ⊥
IsTaken (refused e) = ⊥

is_taken : (s : Step) → told (Ok s) [] ≡ taken → s ≡ Taken
unfolding IsTaken
is_taken Taken p = refl
is_taken (Command n) p = absurd (subst IsTaken (sym p) tt)
is_taken RunEnded p = absurd (subst IsTaken (sym p) tt)

pub opened_stands : OpenedStands
opened_stands b a (Err e) shares text work p = tt
opened_stands b a (Ok s) shares text work p = opens shares text a (record {
  before = b;
  work = work;
  replied = replies_taken_lem (open_refusal (count b.held) b shares text work) b (start (configured shares text) b.limits) s (ap (λ d. d.reply) p);
  is = ap (λ d. d.after) p;
})

pub opened_taken : OpenedTaken
opened_taken b a (Err e) shares text work p = tt
opened_taken b a (Ok s) shares text work p =
    is_taken s (ap (λ d. d.reply) p ∙ replies_taken_lem (open_refusal (count b.held) b shares text work) b (start (configured shares text) b.limits) s (ap (λ d. d.reply) p))

-- a refusal leaves all as it was
stays : (o : Option Refusal) (m n : Meaning) (e : Refusal) → refused e ≡ (checked o m (record { reply = taken; after = n })).reply → (checked o m (record { reply = taken; after = n })).after ≡ m
stays (Some x) m n e p = refl
stays None m n e p = absurd (true≢false (sym (ap accepted p)))

pub refused_opening : RefusedOpening
refused_opening b a r shares text work p e is =
    ap (λ d. d.after) p
    ∙ stays (open_refusal (count b.held) b shares text work) b (start (configured shares text) b.limits) e
    (ap (λ x. told x []) (sym is) ∙ ap (λ d. d.reply) p)
