-- The bytes that a writer has after a text. Assumes nothing.
use Rattle.std.proofs.Common.{◌≡◌, ℕ, ◌+◌, ◌<◌, ◌≤◌, true, false, cond, eqb, List, [], ◌∷◌, length, get_or, drop, IfSome, Some, None, Option, sym, refl, ap, ◌∙◌, subst, ⊎_elim, arith}
use Rattle.std.specs.List.{AllByRecursion}
use Rattle.std.proofs.lemmas.List.{at_drop_more}
use Rattle.std.proofs.lemmas.Bool.{cases_Bool, eqb-true, eqb-false, eq-eqb, ne_eqb, cond-true, cond-false}
use Rattle.dictionary.specs.declared.entry.Entry.{Entry}
use Rattle.dictionary.specs.Dictionary.{entry_of}
use Rattle.tlv.specs.declared.place.Place.{Place}
use Rattle.tlv.specs.Values.{value_at}
use Rattle.store.specs.Map.{Map, size}
use Rattle.judge.specs.declared.kind.TextKind.{TextKind}
use Rattle.judge.specs.Accepted.{AllFit}
use Rattle.keeping.specs.Keeping.{stored_one, stored, removed}
use Rattle.keeping.specs.Steps.{FreshBy, Fresh, length_after}
use Rattle.keeping.proofs.Refills.{last_by, last_of, stored_at, fresh_removed}

module _ (text : List ℕ) (ps : List Place) (i : ℕ) (d : Place) (h : i < length ps) (t n : ℕ) where
  step : length_after text (drop i ps) t n ≡ length_after text (drop (i + 1) ps) t (cond (eqb (get_or ps i d).tag t) (length (value_at text (get_or ps i d))) n)
  step = at_drop_more (λ qs. length_after text qs t n) ps i d h

pub passes_by : (text : List ℕ) (p : Place) (t : ℕ) (o : Option (List ℕ)) (x : Option Entry) → eqb p.tag t ≡ false → last_by text p t o x ≡ o
passes_by text p t o None e = refl
passes_by text p t o (Some y) e = cond-false (eqb t p.tag) (Some (value_at text p)) o (ne_eqb t p.tag (λ q. eqb-false p.tag t e (sym q)))

pub meets : (text : List ℕ) (p : Place) (t : ℕ) (e : Entry) (o : Option (List ℕ)) → entry_of t ≡ Some e → eqb p.tag t ≡ true → last_by text p t o (entry_of p.tag) ≡ Some (value_at text p)
meets text p t e o known here =
    let same : p.tag ≡ t = eqb-true p.tag t here in
    ap (last_by text p t o) (ap entry_of same ∙ known) ∙ cond-true (eqb t p.tag) (Some (value_at text p)) o (eq-eqb t p.tag (sym same))

-- lengths alone tell the length after
size_after : (text : List ℕ) (ps : List Place) (t : ℕ) (e : Entry) (o : Option (List ℕ)) → entry_of t ≡ Some e → length_after text ps t (size o) ≡ size (last_of text ps t o)
size_after text [] t e o known = refl
size_after text (p ∷ ps) t e o known = ⊎_elim
    (λ yes.
    ap (length_after text ps t) (cond-true (eqb p.tag t) (length (value_at text p)) (size o) yes)
    ∙ size_after text ps t e (Some (value_at text p)) known
    ∙ ap (λ x. size (last_of text ps t x)) (sym (meets text p t e o known yes)))
    (λ nay.
    ap (length_after text ps t) (cond-false (eqb p.tag t) (length (value_at text p)) (size o) nay)
    ∙ size_after text ps t e o known
    ∙ ap (λ x. size (last_of text ps t x)) (sym (passes_by text p t o (entry_of p.tag) nay)))
    (cases_Bool (eqb p.tag t))

-- values stay short
abbrev Short : List ℕ → Place → Type 0
Short text p = (e : Entry) → entry_of p.tag ≡ Some e → length (value_at text p) ≤ 255

fresh_short : (text : List ℕ) (ps : List Place) (m : Map) → Fresh text ps m → AllByRecursion (Short text) ps
fresh_short text [] m f = tt
fresh_short text (p ∷ ps) m f =
    let F : Option Entry → Type 0 = λ x. FreshBy text m p x in
    ((λ e known. (subst F known f.0).1), fresh_short text ps (stored_one text m p) f.1)

short_after : (text : List ℕ) (ps : List Place) (t : ℕ) (e : Entry) (o : Option (List ℕ)) → entry_of t ≡ Some e → AllByRecursion (Short text) ps → size o ≤ 255 → size (last_of text ps t o) ≤ 255
short_after text [] t e o known s l = l
short_after text (p ∷ ps) t e o known s l = ⊎_elim
    (λ yes.
    let k = s.0 e (ap entry_of (eqb-true p.tag t yes) ∙ known) in
    let same = ap (λ x. size (last_of text ps t x)) (meets text p t e o known yes) in
    let r = short_after text ps t e (Some (value_at text p)) known s.1 k in
    omega arith)
    (λ nay.
    let same = ap (λ x. size (last_of text ps t x)) (passes_by text p t o (entry_of p.tag) nay) in
    let r = short_after text ps t e o known s.1 l in
    omega arith)
    (cases_Bool (eqb p.tag t))

small_of : (o : Option (List ℕ)) → IfSome o (λ v. length v ≤ 255) → size o ≤ 255
small_of None h = omega arith
small_of (Some v) h = h

pub record After (k : TextKind) (m : Map) (text : List ℕ) (ps : List Place) (t n : ℕ) : Type 0 where
  pub value : n ≡ size (stored text ps m t)
  pub small : n ≤ 255

pub after : (k : TextKind) (m : Map) (text : List ℕ) (ps : List Place) (t n held : ℕ) (e : Entry) → entry_of t ≡ Some e → AllFit k m text [] ps
    → IfSome (m t) (λ v. length v ≤ 255) → held ≡ size (m t) → n ≡ length_after text ps t held → After k m text ps t n
after k m text ps t n held e known a v h r =
    let last : n ≡ size (last_of text ps t (m t)) = r ∙ ap (length_after text ps t) h ∙ size_after text ps t e (m t) known in
    let s = short_after text ps t e (m t) known (fresh_short text ps (removed ps m) (fresh_removed k m text ps a)) (small_of (m t) v) in
    record { value = last ∙ ap size (sym (stored_at text ps m t)); small = omega arith }
