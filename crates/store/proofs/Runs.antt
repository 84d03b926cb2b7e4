-- Laws of lists of steps, and of a part of a text.
use Rattle.std.proofs.Common.{◌≡◌, ℕ, suc, ◌+◌, ◌<◌, List, [], ◌∷◌, ◌++◌, length, get_or, take, drop, set, sym, refl, ap, ◌∙◌, arith}
use Rattle.std.proofs.lemmas.List.{take_more, drop_more, set_at, length-take-le, append_assoc}
use Rattle.store.specs.declared.steps.Step.{Step}
use Rattle.store.specs.declared.steps.StepAnswer.{StepAnswer}
use Rattle.store.specs.Map.{Map}
use Rattle.store.specs.Steps.{step_answer, step_after, answers_of, map_after}

-- one more step at the end
pub answers_push : (o b : ℕ) (text : List ℕ) (m : Map) (ss : List Step) (s : Step)
    → answers_of o b text m (ss ++ s ∷ []) ≡ answers_of o b text m ss ++ step_answer o b text (map_after o b text m ss) s ∷ []
answers_push o b text m [] s = refl
answers_push o b text m (x ∷ xs) s = ap (λ ys. step_answer o b text m x ∷ ys) (answers_push o b text (step_after o b text m x) xs s)

pub map_push : (o b : ℕ) (text : List ℕ) (m : Map) (ss : List Step) (s : Step)
    → map_after o b text m (ss ++ s ∷ []) ≡ step_after o b text (map_after o b text m ss) s
map_push o b text m [] s = refl
map_push o b text m (x ∷ xs) s = map_push o b text (step_after o b text m x) xs s

pub length_answers : (o b : ℕ) (text : List ℕ) (m : Map) (ss : List Step) → length (answers_of o b text m ss) ≡ length ss
length_answers o b text m [] = refl
length_answers o b text m (x ∷ xs) = ap suc (length_answers o b text (step_after o b text m x) xs)

-- a turn of the loop
pub map_more : (o b : ℕ) (text : List ℕ) (m m₁ m₂ : Map) (ss : List Step) (i : ℕ) (s : Step) → i < length ss → s ≡ get_or ss i s
    → m₁ ≡ map_after o b text m (take i ss) → m₂ ≡ step_after o b text m₁ s → m₂ ≡ map_after o b text m (take (i + 1) ss)
map_more o b text m m₁ m₂ ss i s l e h k =
    let t : take (i + 1) ss ≡ take i ss ++ s ∷ [] = take_more ss i s l ∙ ap (λ x. take i ss ++ x ∷ []) (sym e) in
    k ∙ ap (λ n. step_after o b text n s) h ∙ sym (map_push o b text m (take i ss) s) ∙ ap (map_after o b text m) (sym t)

pub answers_more : (o b : ℕ) (text : List ℕ) (m m₁ : Map) (ss : List Step) (xs ys : List StepAnswer) (i : ℕ) (s : Step) (x : StepAnswer)
    → i < length ss → i < length xs → s ≡ get_or ss i s → m₁ ≡ map_after o b text m (take i ss)
    → x ≡ step_answer o b text m₁ s → ys ≡ answers_of o b text m (take i ss) ++ drop i xs
    → set ys i x ≡ answers_of o b text m (take (i + 1) ss) ++ drop (i + 1) xs
answers_more o b text m m₁ ss xs ys i s x l lx e h k inv =
    let t : take (i + 1) ss ≡ take i ss ++ s ∷ [] = take_more ss i s l ∙ ap (λ z. take i ss ++ z ∷ []) (sym e) in
    let done : List StepAnswer = answers_of o b text m (take i ss) in
    let n : length done ≡ i = length_answers o b text m (take i ss) ∙ length-take-le i ss (omega arith) in
    let k' : x ≡ step_answer o b text (map_after o b text m (take i ss)) s = k ∙ ap (λ z. step_answer o b text z s) h in
    ap (λ zs. set zs i x) (inv ∙ ap (λ zs. done ++ zs) (drop_more xs i x lx))
    ∙ set_at done (get_or xs i x) (drop (i + 1) xs) x i n
    ∙ sym (append_assoc done (x ∷ []) (drop (i + 1) xs))
    ∙ ap (λ z. (done ++ z ∷ []) ++ drop (i + 1) xs) k'
    ∙ ap (λ zs. zs ++ drop (i + 1) xs) (sym (ap (answers_of o b text m) t ∙ answers_push o b text m (take i ss) s))
