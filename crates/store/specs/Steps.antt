-- Several calls of a store, one after the other: what they answer and leave, told by the map, the limits and the calls.
use Rattle.std.specs.Prelude.{◌≡◌, ℕ, List, [], ◌∷◌, take, drop, is_some, None}
use Rattle.keyed.specs.declared.tag.Tag.{Tag}
use Rattle.store.specs.declared.steps.Part.{Part}
use Rattle.store.specs.declared.steps.Step.{Step}
use Rattle.store.specs.declared.steps.Step.TheVariants.{Put, Drop}
use Rattle.store.specs.declared.steps.StepAnswer.{StepAnswer}
use Rattle.store.specs.declared.steps.StepAnswer.TheVariants.{Put as put_told, Drop as drop_told}
use Rattle.store.specs.Map.{Map, changed}
use Rattle.store.specs.Answer.{put_answer, put_after}

-- m without those tags
abbrev pub cleared : List Tag → Map → Map
cleared [] m = m
cleared (t ∷ ts) m = cleared ts (changed m t.value None)

-- the part p of a text, as far as the text reaches
abbrev pub value_in : List ℕ → Part → List ℕ
value_in text p = take p.len (drop p.start text)

-- what a step answers, under the limits, where the map is m
abbrev pub step_answer : ℕ → ℕ → List ℕ → Map → Step → StepAnswer
step_answer objects bytes text m (Put t p) = put_told (put_answer objects bytes m t.value (value_in text p))
step_answer objects bytes text m (Drop t) = drop_told (is_some (m t.value))

-- the map after it
abbrev pub step_after : ℕ → ℕ → List ℕ → Map → Step → Map
step_after objects bytes text m (Put t p) =
    put_after (put_answer objects bytes m t.value (value_in text p)) m t.value (value_in text p)
step_after objects bytes text m (Drop t) = changed m t.value None

-- what a list of steps answers, from the map m on
abbrev pub answers_of : ℕ → ℕ → List ℕ → Map → List Step → List StepAnswer
answers_of objects bytes text m [] = []
answers_of objects bytes text m (s ∷ ss) =
    step_answer objects bytes text m s ∷ answers_of objects bytes text (step_after objects bytes text m s) ss

-- the map after it
abbrev pub map_after : ℕ → ℕ → List ℕ → Map → List Step → Map
map_after objects bytes text m [] = m
map_after objects bytes text m (s ∷ ss) = map_after objects bytes text (step_after objects bytes text m s) ss

-- Two lists of answers begin with those of the steps from the map m on, and the maps after them, m' and n', are that
-- of the steps.
pub record SameAnswers (objects bytes : ℕ) (text : List ℕ) (m : Map) (steps : List Step) (n : ℕ) (xs ys : List StepAnswer) (m' n' : Map) : Type 0 where
  pub first : take n xs ≡ answers_of objects bytes text m (take n steps)
  pub second : take n ys ≡ answers_of objects bytes text m (take n steps)
  pub alike : m' ≡ n'
  pub after : m' ≡ map_after objects bytes text m (take n steps)
