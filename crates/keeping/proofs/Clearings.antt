-- Clearing entry by entry leaves what the definition says. Assumes nothing.
use Rattle.std.proofs.Common.{◌≡◌, ℕ, true, eqb, ltb, List, [], ◌∷◌, Some, None, sym, refl, ap, ◌∙◌, ⊎_elim, arith}
use mathlib.Core.Path.{fun_ext}
use Rattle.std.proofs.lemmas.Bool.{cases_Bool, eqb-true, eqb-false, cond-true, cond-false, and_parts}
use Rattle.dictionary.specs.declared.entry.Entry.{Entry}
use Rattle.dictionary.specs.declared.entry.Writer.{Writer}
use Rattle.dictionary.specs.declared.entry.Writer.TheVariants.{Configuration, TerminalBeforeBegin, Terminal, Card, Reader}
use Rattle.dictionary.specs.Dictionary.{dictionary, entry_of, find, rises}
use Rattle.dictionary.proofs.Order.{above, find_none, dictionary_rises}
use Rattle.store.specs.Map.{Map, changed}
use Rattle.store.specs.Maps.{changed_here, changed_other}
use Rattle.judge.specs.Writers.{by_writer}
use Rattle.keeping.specs.Clearing.{stays, cleared}
use Rattle.keeping.specs.Steps.{cleared_one, cleared_all}

-- at the tag itself, and at any other
here : (m : Map) (t : ℕ) (w : Writer) → by_writer m (changed m t None) (changed m t None) (changed m t None) (changed m t None) w t ≡ by_writer (m t) None None None None w
here m t Configuration = refl
here m t TerminalBeforeBegin = changed_here m t None
here m t Terminal = changed_here m t None
here m t Card = changed_here m t None
here m t Reader = changed_here m t None

there : (m : Map) (t k : ℕ) (w : Writer) → (k ≡ t → ⊥) → by_writer m (changed m t None) (changed m t None) (changed m t None) (changed m t None) w k ≡ m k
there m t k Configuration ne = refl
there m t k TerminalBeforeBegin ne = changed_other m t k None ne
there m t k Terminal ne = changed_other m t k None ne
there m t k Card ne = changed_other m t k None ne
there m t k Reader ne = changed_other m t k None ne

all_at : (b : ℕ) (es : List Entry) → rises b es ≡ true → (m : Map) (t : ℕ) → cleared_all es m t ≡ stays (m t) (find t es)
all_at b [] r m t = refl
all_at b (e ∷ es) r m t =
    let parts = and_parts (ltb b e.tag) (rises e.tag es) r in
    let rest = all_at e.tag es parts.1 (cleared_one m e) t in
    ⊎_elim
    (λ yes.
    let same : e.tag ≡ t = eqb-true e.tag t yes in
    let gone : find t es ≡ None = find_none t es (λ k d l s. omega (arith, above e.tag es parts.1 k d l)) in
    rest ∙ ap (stays (cleared_one m e t)) gone ∙ ap (cleared_one m e) (sym same) ∙ here m e.tag e.writer
    ∙ ap (λ k. by_writer (m k) None None None None e.writer) same
    ∙ ap (stays (m t)) (sym (cond-true (eqb e.tag t) (Some e) (find t es) yes)))
    (λ nay.
    rest ∙ ap (λ o. stays o (find t es)) (there m e.tag t e.writer (λ s. eqb-false e.tag t nay (sym s)))
    ∙ ap (stays (m t)) (sym (cond-false (eqb e.tag t) (Some e) (find t es) nay)))
    (cases_Bool (eqb e.tag t))

pub all_cleared : (m : Map) → cleared_all dictionary m ≡ cleared m
unfolding entry_of
all_cleared m = fun_ext (λ t. all_at 0 dictionary dictionary_rises m t)
