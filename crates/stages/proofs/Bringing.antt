-- The value that a text brings of a tag. Assumes nothing.
use Rattle.std.proofs.Common.{◌≡◌, ℕ, ◌+◌, ◌<◌, cond, eqb, List, [], ◌∷◌, length, get_or, drop, Some, None, Option, sym, refl, ap, ◌∙◌, ⊎_elim}
use Rattle.std.proofs.lemmas.List.{at_drop_more}
use Rattle.std.proofs.lemmas.Bool.{cases_Bool, eq-eqb, ne_eqb, cond-true, cond-false}
use Rattle.dictionary.specs.declared.entry.Entry.{Entry}
use Rattle.dictionary.specs.Dictionary.{entry_of}
use Rattle.tlv.specs.declared.place.Place.{Place}
use Rattle.tlv.specs.Values.{value_at}
use Rattle.store.specs.Map.{empty}
use Rattle.commands.specs.Commands.{bytes}
use Rattle.keeping.specs.Keeping.{stored}
use Rattle.keeping.proofs.Refills.{last_of, stored_at}
use Rattle.keeping.proofs.Replacings.{unknown_kept}
use Rattle.keeping.proofs.Sharing.{passes_by, meets}
use Rattle.stages.specs.Brought.{last_value}

-- one turn of the loop that looks for it
module _ (text : List ℕ) (ps : List Place) (i : ℕ) (d : Place) (h : i < length ps) (t : ℕ) (v : List ℕ) where
  step : last_value text (drop i ps) t v ≡ last_value text (drop (i + 1) ps) t (cond (eqb (get_or ps i d).tag t) (value_at text (get_or ps i d)) v)
  step = at_drop_more (λ qs. last_value text qs t v) ps i d h

  pub value_here : (w : List ℕ) → (get_or ps i d).tag ≡ t → w ≡ value_at text (get_or ps i d) → last_value text (drop (i + 1) ps) t w ≡ last_value text (drop i ps) t v
  value_here w e f =
      ap (last_value text (drop (i + 1) ps) t) (f ∙ sym (cond-true (eqb (get_or ps i d).tag t) (value_at text (get_or ps i d)) v (eq-eqb (get_or ps i d).tag t e))) ∙ sym step

  pub value_other : (w : List ℕ) → ((get_or ps i d).tag ≡ t → ⊥) → w ≡ v → last_value text (drop (i + 1) ps) t w ≡ last_value text (drop i ps) t v
  value_other w ne f =
      ap (last_value text (drop (i + 1) ps) t) (f ∙ sym (cond-false (eqb (get_or ps i d).tag t) (value_at text (get_or ps i d)) v (ne_eqb (get_or ps i d).tag t ne))) ∙ sym step

-- of a known tag the last value is the one stored
value_after : (text : List ℕ) (ps : List Place) (t : ℕ) (e : Entry) (o : Option (List ℕ)) → entry_of t ≡ Some e → last_value text ps t (bytes o) ≡ bytes (last_of text ps t o)
value_after text [] t e o known = refl
value_after text (p ∷ ps) t e o known = ⊎_elim
    (λ yes.
    ap (last_value text ps t) (cond-true (eqb p.tag t) (value_at text p) (bytes o) yes)
    ∙ value_after text ps t e (Some (value_at text p)) known
    ∙ ap (λ x. bytes (last_of text ps t x)) (sym (meets text p t e o known yes)))
    (λ nay.
    ap (last_value text ps t) (cond-false (eqb p.tag t) (value_at text p) (bytes o) nay)
    ∙ value_after text ps t e o known
    ∙ ap (λ x. bytes (last_of text ps t x)) (sym (passes_by text p t o (entry_of p.tag) nay)))
    (cases_Bool (eqb p.tag t))

pub known_brought : (text : List ℕ) (ps : List Place) (t : ℕ) (e : Entry) → entry_of t ≡ Some e → last_value text ps t [] ≡ bytes (stored text ps empty t)
known_brought text ps t e known = value_after text ps t e None known ∙ ap bytes (sym (stored_at text ps empty t))

-- of an unknown one nothing is stored
pub unknown_brought : (text : List ℕ) (ps : List Place) (t : ℕ) → entry_of t ≡ None → [] ≡ bytes (stored text ps empty t)
unknown_brought text ps t unknown = ap bytes (sym (stored_at text ps empty t ∙ unknown_kept text ps t unknown None))
