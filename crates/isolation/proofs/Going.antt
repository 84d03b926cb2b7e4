-- One call more.
use Rattle.std.proofs.Common.{◌≡◌, ℕ, ◌+◌, ◌<◌, List, [], ◌∷◌, ◌++◌, length, get_or, take, Result, refl, ap, ◌∙◌, ap₂}
use Rattle.std.proofs.lemmas.List.{take_more}
use Rattle.run.specs.declared.refusal.Refusal.{Refusal}
use Rattle.run.specs.State.{Meaning}
use Rattle.run.specs.Calls.{Call, Reply, Config}
use Rattle.run.specs.History.{History, turn, calls}
use Rattle.run.specs.Law.{Stands}
use Rattle.reader.specs.declared.reader.Step.{Step}
use Rattle.isolation.specs.Asked.{latest}
use Rattle.isolation.specs.Beside.{handed_back, replies, Answered, Went}

-- one more, the latest
module _ {A B : Type 0} (f : A → B) where
  latest_append : (xs ys : List A) (past : List B) → latest f (xs ++ ys) past ≡ latest f ys (latest f xs past)
  latest_append [] ys past = refl
  latest_append (x ∷ xs) ys past = latest_append xs ys (f x ∷ past)

  pub latest_more : (xs : List A) (i : ℕ) (d : A) (past : List B) → i < length xs → latest f (take (i + 1) xs) past ≡ f (get_or xs i d) ∷ latest f (take i xs) past
  latest_more xs i d past less = ap (λ ys. latest f ys past) (take_more xs i d less) ∙ latest_append (take i xs) (get_or xs i d ∷ []) past

calls_more : (c : Call) (r : Reply) (past : History) → calls (turn c r ∷ past) ≡ c ∷ calls past
unfolding calls
calls_more c r past = refl

replies_more : (c : Call) (r : Reply) (past : History) → replies (turn c r ∷ past) ≡ handed_back r ∷ replies past
unfolding replies
replies_more c r past = refl

pub went_on : (config : Config) (cs : List Call) (rs : List (Result Step Refusal)) (b a : Meaning) (c : Call) (r : Result Step Refusal) → Answered b c r a → Went config cs rs b → Went config (c ∷ cs) (r ∷ rs) a
went_on config cs rs b a c r answered went = record {
  past = turn c answered.reply ∷ went.past;
  these = calls_more c answered.reply went.past ∙ ap (λ xs. c ∷ xs) went.these;
  replied = replies_more c answered.reply went.past ∙ ap₂ (λ x xs. x ∷ xs) answered.back went.replied;
  stands = answered.law.stands config went.past went.stands;
}

none_asked : calls [] ≡ []
unfolding calls
none_asked = refl

none_replied : replies [] ≡ []
unfolding replies
none_replied = refl

-- a reader of which nothing was asked
pub nothing_asked : (config : Config) (m : Meaning) → Stands config [] m → Went config [] [] m
nothing_asked config m stands = record { past = []; these = none_asked; replied = none_replied; stands = stands }
