-- Storing the objects of a text one after the other. Assumes nothing.
use Rattle.std.proofs.Common.{◌≡◌, ℕ, ◌+◌, ◌<◌, ◌≤◌, List, [], ◌∷◌, length, get_or, drop, Some, None, Ok, Option, refl, ap, ◌∙◌, subst, arith}
use Rattle.std.proofs.lemmas.List.{at_drop_more, drop_more}
use Rattle.std.proofs.lemmas.Bool.{cond-false, le-ltb, or_from}
use Rattle.dictionary.specs.declared.entry.Entry.{Entry}
use Rattle.dictionary.specs.Dictionary.{entry_of}
use Rattle.dictionary.proofs.Order.{entry_sound}
use Rattle.tlv.specs.declared.place.Place.{Place}
use Rattle.tlv.specs.Values.{value_at}
use Rattle.store.specs.Map.{Map, changed, one, size, count, total}
use Rattle.store.specs.Maps.{count_changed, total_changed}
use Rattle.store.specs.Answer.{passes, put_answer}
use Rattle.keeping.specs.Keeping.{stored_by, stored_one, stored}
use Rattle.keeping.specs.Steps.{FreshBy, Fresh, Holds}

-- what the checker reads past the end of a list of places
abbrev pub blank : Place
blank = record { tag = 0; at = 0; start = 0; len = 0 }

-- a put that leaves the store within its limits is taken
pub put_taken : (o b : ℕ) (m : Map) (t : ℕ) (v : List ℕ) → length v ≤ 255 → Holds o b (changed m t (Some v)) → put_answer o b m t v ≡ Ok tt
put_taken o b m t v short h =
    cond-false _ _ _ (le-ltb 255 (length v) short)
    ∙ cond-false (passes o b (changed m t (Some v))) _ _ (or_from _ _ (le-ltb o (count (changed m t (Some v))) h.few) (le-ltb b (total (changed m t (Some v))) h.small))

-- one object more, at a tag that is not held
module _ (text : List ℕ) (m : Map) (p : Place) where
  grows_by : (o : Option Entry) → entry_of p.tag ≡ o → FreshBy text m p o → (count m ≤ count (stored_by text m p o)) × (total m ≤ total (stored_by text m p o))
  grows_by None e f = (omega arith, omega arith)
  grows_by (Some x) e f =
      let l = (entry_sound p.tag x e).tag in
      let a = count_changed m p.tag (Some (value_at text p)) l in
      let b = total_changed m p.tag (Some (value_at text p)) l in
      let c = ap one f.0 in
      let d = ap size f.0 in
      (omega arith, omega arith)

-- so is each of several
pub grows : (text : List ℕ) (ps : List Place) (m : Map) → Fresh text ps m → (count m ≤ count (stored text ps m)) × (total m ≤ total (stored text ps m))
grows text [] m f = (omega arith, omega arith)
grows text (p ∷ ps) m f =
    let a = grows_by text m p (entry_of p.tag) refl f.0 in
    let b = grows text ps (stored_one text m p) f.1 in
    (omega (arith, a.0, b.0), omega (arith, a.1, b.1))

-- one turn of the loop that puts them
module _ (text : List ℕ) (ps : List Place) (i : ℕ) (d : Place) (h : i < length ps) (m : Map) where
  pub stored_more : stored text (drop i ps) m ≡ stored text (drop (i + 1) ps) (stored_one text m (get_or ps i d))
  stored_more = at_drop_more (λ qs. stored text qs m) ps i d h

  pub fresh_more : Fresh text (drop i ps) m → FreshBy text m (get_or ps i d) (entry_of (get_or ps i d).tag) × Fresh text (drop (i + 1) ps) (stored_one text m (get_or ps i d))
  fresh_more f = let P : List Place → Type 0 = λ qs. Fresh text qs m in subst P (drop_more ps i d h) f

-- the limits hold the objects put so far, since they hold them all
pub holds_so_far : (text : List ℕ) (ps : List Place) (m n : Map) (o o' b b' : ℕ) → Fresh text ps m → stored text ps m ≡ n → Holds o b n → o' ≡ o → b' ≡ b → Holds o' b' m
holds_so_far text ps m n o o' b b' f e h p q =
    let a = grows text ps m f in
    let c = ap count e in
    let d = ap total e in
    record { few = omega (arith, a.0, h.few); small = omega (arith, a.1, h.small) }
