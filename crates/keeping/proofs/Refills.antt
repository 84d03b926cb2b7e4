-- An accepted text whose tags are removed first can be put, and gives the same map. Assumes nothing.
use Rattle.std.proofs.Common.{◌≡◌, ℕ, ◌<◌, ◌≤◌, Bool, true, false, cond, ◌&&◌, eqb, leb, List, [], ◌∷◌, ◌++◌, length, Some, None, Option, sym, refl, ap, ◌∙◌, ⊎_elim, arith}
use mathlib.Core.Path.{fun_ext}
use Rattle.std.proofs.lemmas.Bool.{eqb-true, eqb-false, eq-eqb, cond-true, or_cases, or_from, or_left, or_right, or_parts, and_parts, leb-true, false≢true}
use Rattle.dictionary.specs.declared.entry.Entry.{Entry}
use Rattle.dictionary.specs.Dictionary.{entry_of}
use Rattle.dictionary.specs.Checks.{fits_length}
use Rattle.dictionary.proofs.Order.{entry_sound}
use Rattle.tlv.specs.declared.place.Place.{Place}
use Rattle.tlv.specs.Values.{value_at}
use Rattle.store.specs.Map.{Map}
use Rattle.store.specs.Maps.{changed_other}
use Rattle.judge.specs.declared.kind.TextKind.{TextKind}
use Rattle.judge.specs.Rules.{named}
use Rattle.judge.specs.Accepted.{FitsBy, AllFit}
use Rattle.keeping.specs.Keeping.{stored_by, stored_one, stored, removed_by, removed_one, removed}
use Rattle.keeping.specs.Steps.{FreshBy, Fresh}

-- what one tag holds, object by object
abbrev pub last_by : List ℕ → Place → ℕ → Option (List ℕ) → Option Entry → Option (List ℕ)
last_by text p t o None = o
last_by text p t o (Some e) = cond (eqb t p.tag) (Some (value_at text p)) o

abbrev pub last_of : List ℕ → List Place → ℕ → Option (List ℕ) → Option (List ℕ)
last_of text [] t o = o
last_of text (p ∷ ps) t o = last_of text ps t (last_by text p t o (entry_of p.tag))

one_at : (text : List ℕ) (m : Map) (p : Place) (t : ℕ) (x : Option Entry) → stored_by text m p x t ≡ last_by text p t (m t) x
one_at text m p t None = refl
one_at text m p t (Some e) = refl

pub stored_at : (text : List ℕ) (ps : List Place) (m : Map) (t : ℕ) → stored text ps m t ≡ last_of text ps t (m t)
stored_at text [] m t = refl
stored_at text (p ∷ ps) m t = stored_at text ps (stored_one text m p) t ∙ ap (last_of text ps t) (one_at text m p t (entry_of p.tag))

-- the same of removing
abbrev drop_by : Place → ℕ → Option (List ℕ) → Option Entry → Option (List ℕ)
drop_by p t o None = o
drop_by p t o (Some e) = cond (eqb t p.tag) None o

abbrev drop_of : List Place → ℕ → Option (List ℕ) → Option (List ℕ)
drop_of [] t o = o
drop_of (p ∷ ps) t o = drop_of ps t (drop_by p t o (entry_of p.tag))

drop_at : (m : Map) (p : Place) (t : ℕ) (x : Option Entry) → removed_by m p x t ≡ drop_by p t (m t) x
drop_at m p t None = refl
drop_at m p t (Some e) = refl

removed_at : (ps : List Place) (m : Map) (t : ℕ) → removed ps m t ≡ drop_of ps t (m t)
removed_at [] m t = refl
removed_at (p ∷ ps) m t = removed_at ps (removed_one m p) t ∙ ap (drop_of ps t) (drop_at m p t (entry_of p.tag))

module _ (text : List ℕ) (p : Place) (ps : List Place) (t : ℕ) (again : (x : Option (List ℕ)) → last_of text ps t (drop_of ps t x) ≡ last_of text ps t x) where
  over_cond : (b : Bool) (v o : Option (List ℕ)) → last_of text ps t (cond b v (drop_of ps t (cond b None o))) ≡ last_of text ps t (cond b v o)
  over_cond true v o = refl
  over_cond false v o = again o

  over_by : (o : Option (List ℕ)) (x : Option Entry) → last_of text ps t (last_by text p t (drop_of ps t (drop_by p t o x)) x) ≡ last_of text ps t (last_by text p t o x)
  over_by o None = again o
  over_by o (Some e) = over_cond (eqb t p.tag) (Some (value_at text p)) o

over : (text : List ℕ) (ps : List Place) (t : ℕ) (o : Option (List ℕ)) → last_of text ps t (drop_of ps t o) ≡ last_of text ps t o
over text [] t o = refl
over text (p ∷ ps) t o = over_by text p ps t (over text ps t) o (entry_of p.tag)

pub stored_removed : (text : List ℕ) (ps : List Place) (m : Map) → stored text ps (removed ps m) ≡ stored text ps m
stored_removed text ps m =
    fun_ext (λ t. stored_at text ps (removed ps m) t ∙ ap (last_of text ps t) (removed_at ps m t) ∙ over text ps t (m t) ∙ sym (stored_at text ps m t))

-- a removed tag is not held
none_stays : (ps : List Place) (t : ℕ) → drop_of ps t None ≡ None
none_stays [] t = refl
none_stays (p ∷ ps) t = ap (drop_of ps t) (by (entry_of p.tag)) ∙ none_stays ps t
  where
    alike : (b : Bool) → cond {A = Option (List ℕ)} b None None ≡ None
    alike true = refl
    alike false = refl

    by : (x : Option Entry) → drop_by p t None x ≡ None
    by None = refl
    by (Some e) = alike (eqb t p.tag)

gone : (ps : List Place) (t : ℕ) (e : Entry) (o : Option (List ℕ)) → entry_of t ≡ Some e → named t ps ≡ true → drop_of ps t o ≡ None
gone [] t e o k n = absurd (false≢true n)
gone (p ∷ ps) t e o k n = ⊎_elim
    (λ here.
    let same : p.tag ≡ t = eqb-true p.tag t here in
    ap (λ x. drop_of ps t (drop_by p t o x)) (ap entry_of same ∙ k)
    ∙ ap (drop_of ps t) (cond-true (eqb t p.tag) None o (eq-eqb t p.tag (sym same)))
    ∙ none_stays ps t)
    (λ later. gone ps t e (drop_by p t o (entry_of p.tag)) k later)
    (or_cases (eqb p.tag t) (named t ps) n)

pub removed_none : (ps : List Place) (m : Map) (t : ℕ) (e : Entry) → entry_of t ≡ Some e → named t ps ≡ true → removed ps m t ≡ None
removed_none ps m t e k n = removed_at ps m t ∙ gone ps t e (m t) k n

-- a value of a length that fits is short enough
fits : (e : Entry) (n : ℕ) → e.most < 256 → fits_length e n ≡ true → n ≤ 255
fits e n l h = ⊎_elim
    (λ z. omega (arith, eqb-true n 0 z))
    (λ b. omega (arith, leb-true n e.most (and_parts (leb e.least n) (leb n e.most) b).1))
    (or_cases (eqb n 0) (leb e.least n && leb n e.most) h)

named_push : (t : ℕ) (ps : List Place) (p : Place) → named t (ps ++ p ∷ []) ≡ false → (named t ps ≡ false) × (eqb p.tag t ≡ false)
named_push t [] p h = (refl, (or_parts (eqb p.tag t) false h).0)
named_push t (q ∷ ps) p h =
    let a = or_parts (eqb q.tag t) (named t (ps ++ p ∷ [])) h in
    let b = named_push t ps p a.1 in
    (or_from _ _ a.0 b.0, b.1)

module _ (k : TextKind) (m : Map) (text : List ℕ) where
  one_fresh : (passed : List Place) (p : Place) (M : Map) (x : Option Entry) → entry_of p.tag ≡ x → FitsBy k m text passed p x
      → ((e : Entry) → entry_of p.tag ≡ Some e → named p.tag passed ≡ false → M p.tag ≡ None) → FreshBy text M p x
  one_fresh passed p M None e h free = tt
  one_fresh passed p M (Some x) e h free =
      (free x e h.once, fits x (length (value_at text p)) (entry_sound p.tag x e).most h.sized)

  other : (M : Map) (p : Place) (t : ℕ) (x : Option Entry) → eqb p.tag t ≡ false → stored_by text M p x t ≡ M t
  other M p t None e = refl
  other M p t (Some x) e = changed_other M p.tag t (Some (value_at text p)) (λ q. eqb-false p.tag t e (sym q))

  fresh : (passed ps : List Place) (M : Map) → AllFit k m text passed ps
      → ((t : ℕ) (e : Entry) → entry_of t ≡ Some e → named t ps ≡ true → named t passed ≡ false → M t ≡ None) → Fresh text ps M
  fresh passed [] M a free = tt
  fresh passed (p ∷ ps) M a free = (
    one_fresh passed p M (entry_of p.tag) refl a.0 (λ e known not-passed. free p.tag e known (or_left _ _ (eq-eqb p.tag p.tag refl)) not-passed),
    fresh (passed ++ p ∷ []) ps (stored_one text M p) a.1
        (λ t e known later not-passed.
        let r = named_push t passed p not-passed in
        other M p t (entry_of p.tag) r.1 ∙ free t e known (or_right _ _ later) r.0),
  )

  pub fresh_removed : (ps : List Place) → AllFit k m text [] ps → Fresh text ps (removed ps m)
  fresh_removed ps a = fresh [] ps (removed ps m) a (λ t e known here _. removed_none ps m t e known here)
