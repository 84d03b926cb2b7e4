-- Two readers side by side.
use Rattle.std.proofs.Common.{◌≡◌, ℕ, List, [], ◌∷◌, Ok, Err, Result, sym, refl, ap, ◌∙◌, ap₂}
use Rattle.keeping.specs.declared.shares.Shares.{Shares}
use Rattle.keeping.specs.Own.{SameOwn}
use Rattle.run.specs.declared.refusal.Refusal.{Refusal}
use Rattle.run.specs.State.{Meaning}
use Rattle.run.specs.Calls.{Call, write, begin, answer, link_fault, stop, clear, Reply, taken, command, run_ended, refused, Config}
use Rattle.run.specs.History.{History, turn, calls}
use Rattle.run.specs.Account.{Alike, own_calls, own_replies, refusal_of}
use Rattle.run.proofs.Lawful.{same_after}
use Rattle.reader.specs.declared.reader.Step.{Step}
use Rattle.isolation.specs.declared.call.Asked.{Asked}
use Rattle.isolation.specs.Beside.{handed_back, replies, Went, refusal_in, own_replied, session, CameTo, Isolated}

-- the refusal of a reply is handed back
refusal_back : (r : Reply) → refusal_in (handed_back r) ≡ refusal_of r
refusal_back taken = refl
refusal_back (command bytes) = refl
refusal_back run_ended = refl
refusal_back (refused e) = refl

-- the replies to the terminal's own calls are among those handed back
own_replied_lem : (past : History) → own_replied (calls past) (replies past) ≡ own_replies past
unfolding calls replies own_replies
own_replied_lem [] = refl
own_replied_lem (turn (write text work) r ∷ past) = ap₂ (λ x xs. x ∷ xs) (refusal_back r) (own_replied_lem past)
own_replied_lem (turn (begin fci buffer work) r ∷ past) = ap₂ (λ x xs. x ∷ xs) (refusal_back r) (own_replied_lem past)
own_replied_lem (turn (answer bytes buffer work) r ∷ past) = own_replied_lem past
own_replied_lem (turn (link_fault code) r ∷ past) = own_replied_lem past
own_replied_lem (turn stop r ∷ past) = own_replied_lem past
own_replied_lem (turn clear r ∷ past) = ap₂ (λ x xs. x ∷ xs) (refusal_back r) (own_replied_lem past)

same_asked : (config : Config) (xs ys : List Call) (rs rs' : List (Result Step Refusal)) (m m' : Meaning) → Went config xs rs m → Went config ys rs' m' → Alike xs ys
    → SameOwn m.held m'.held × (own_replied xs rs ≡ own_replied ys rs')
same_asked config xs ys rs rs' m m' w w' alike =
    let same = same_after config w.past w'.past m m' w.stands w'.stands (ap own_calls w.these ∙ alike ∙ sym (ap own_calls w'.these)) in (
      same.objects,
      sym (ap₂ own_replied w.these w.replied) ∙ own_replied_lem w.past ∙ same.replies ∙ sym (own_replied_lem w'.past) ∙ ap₂ own_replied w'.these w'.replied,
    )

-- the law over two sessions with the same shares and configuration
pub isolated : (shares : Shares) (text : List ℕ) (b w b' w' : ℕ) (xs ys : List Asked) (m₀ m₀' : Meaning) (r r' : Result ℕ Refusal) (rs rs' : List (Result Step Refusal)) (m m' : Meaning)
    → CameTo (session shares text b w xs) m₀ r rs m → CameTo (session shares text b' w' ys) m₀' r' rs' m'
    → Isolated (session shares text b w xs) (session shares text b' w' ys) r r' rs rs' m m'
isolated shares text b w b' w' xs ys m₀ m₀' (Ok n) (Ok k) rs rs' m m' h h' = λ alike. same_asked _ _ _ _ _ m m' h.2 h'.2 alike
isolated shares text b w b' w' xs ys m₀ m₀' (Ok n) (Err e) rs rs' m m' h h' = tt
isolated shares text b w b' w' xs ys m₀ m₀' (Err e) (Ok k) rs rs' m m' h h' = tt
isolated shares text b w b' w' xs ys m₀ m₀' (Err e) (Err e') rs rs' m m' h h' = tt
