-- What is held after a text without a fault was stored: its objects, and besides them what was held. Assumes nothing.
use Rattle.std.proofs.Common.{◌≡◌, ℕ, true, false, eqb, List, [], ◌∷◌, ◌++◌, Some, None, Option, sym, refl, ap, ◌∙◌, ⊎_elim, arith}
use Rattle.std.specs.List.{AllByRecursion}
use Rattle.std.proofs.lemmas.Bool.{both_ways, cond-false, eqb-false, eq-eqb, ne_eqb, or_cases, or_left, or_right, or_parts}
use Rattle.dictionary.specs.declared.entry.Entry.{Entry}
use Rattle.dictionary.specs.Dictionary.{entry_of}
use Rattle.tlv.specs.declared.place.Place.{Place}
use Rattle.tlv.specs.Series.{meaning}
use Rattle.tlv.specs.Values.{value_at}
use Rattle.store.specs.Map.{Map}
use Rattle.store.specs.Maps.{changed_here}
use Rattle.judge.specs.declared.kind.TextKind.{TextKind}
use Rattle.judge.specs.Rules.{named}
use Rattle.judge.specs.Accepted.{FitsBy, AllFit}
use Rattle.keeping.specs.Keeping.{stored_by, stored_one, stored, places_read, stored_text}
use Rattle.keeping.specs.Replacing.{HeldIn, Replaced}
use Rattle.keeping.proofs.Refills.{last_by, last_of, stored_at}

named_left : (t : ℕ) (ps : List Place) (p : Place) → named t ps ≡ true → named t (ps ++ p ∷ []) ≡ true
named_left t [] p h = absurd (both_ways false refl h)
named_left t (q ∷ ps) p h = ⊎_elim (λ here. or_left _ _ here) (λ later. or_right _ _ (named_left t ps p later)) (or_cases (eqb q.tag t) (named t ps) h)

named_last : (ps : List Place) (p : Place) → named p.tag (ps ++ p ∷ []) ≡ true
named_last [] p = or_left _ _ (eq-eqb p.tag p.tag refl)
named_last (q ∷ ps) p = or_right _ _ (named_last ps p)

-- a tag that stands before these objects is not stored again
module _ (k : TextKind) (m : Map) (text : List ℕ) where
  passed_by : (t : ℕ) (passed : List Place) (p : Place) (x : Option Entry) → FitsBy k m text passed p x → named t passed ≡ true → (o : Option (List ℕ)) → last_by text p t o x ≡ o
  passed_by t passed p None f n o = refl
  passed_by t passed p (Some e) f n o =
      let apart : t ≡ p.tag → ⊥ = λ same. both_ways (named p.tag passed) f.once (ap (λ u. named u passed) (sym same) ∙ n) in
      cond-false (eqb t p.tag) (Some (value_at text p)) o (ne_eqb t p.tag apart)

  settled : (t : ℕ) (passed ps : List Place) → AllFit k m text passed ps → named t passed ≡ true → (o : Option (List ℕ)) → last_of text ps t o ≡ o
  settled t passed [] a n o = refl
  settled t passed (p ∷ ps) a n o =
      ap (last_of text ps t) (passed_by t passed p (entry_of p.tag) a.0 n o)
      ∙ settled t (passed ++ p ∷ []) ps a.1 (named_left t passed p n) o

  all_held : (passed ps : List Place) (M : Map) → AllFit k m text passed ps → AllByRecursion (HeldIn text (stored text ps M)) ps
  all_held passed [] M a = tt
  all_held passed (p ∷ ps) M a = (
    (λ e known.
        stored_at text ps (stored_one text M p) p.tag
        ∙ settled p.tag (passed ++ p ∷ []) ps a.1 (named_last passed p) (stored_one text M p p.tag)
        ∙ ap (λ x. stored_by text M p x p.tag) known
        ∙ changed_here M p.tag (Some (value_at text p))),
    all_held (passed ++ p ∷ []) ps (stored_one text M p) a.1,
  )

-- an unknown tag, and one that no object has, are not stored at all
pub unknown_kept : (text : List ℕ) (ps : List Place) (t : ℕ) → entry_of t ≡ None → (o : Option (List ℕ)) → last_of text ps t o ≡ o
unknown_kept text [] t u o = refl
unknown_kept text (p ∷ ps) t u o = ap (last_of text ps t) (by (entry_of p.tag) refl) ∙ unknown_kept text ps t u o
  where
    by : (x : Option Entry) → entry_of p.tag ≡ x → last_by text p t o x ≡ o
    by None f = refl
    by (Some e) f =
        cond-false (eqb t p.tag) (Some (value_at text p)) o
        (ne_eqb t p.tag (λ same. let c = sym u ∙ ap entry_of same ∙ f in let z : ◌≡◌ {A = ℕ} 0 1 = cc in omega arith))

unnamed_kept : (text : List ℕ) (ps : List Place) (t : ℕ) → named t ps ≡ false → (o : Option (List ℕ)) → last_of text ps t o ≡ o
unnamed_kept text [] t n o = refl
unnamed_kept text (p ∷ ps) t n o = ap (last_of text ps t) (by (entry_of p.tag)) ∙ unnamed_kept text ps t (or_parts (eqb p.tag t) (named t ps) n).1 o
  where
    by : (x : Option Entry) → last_by text p t o x ≡ o
    by None = refl
    by (Some e) =
        cond-false (eqb t p.tag) (Some (value_at text p)) o
        (ne_eqb t p.tag (λ same. eqb-false p.tag t (or_parts (eqb p.tag t) (named t ps) n).0 (sym same)))

pub replaced : (k : TextKind) (m : Map) (text : List ℕ) → AllFit k m text [] (places_read (meaning text)) → Replaced text m (stored_text text m)
replaced k m text a =
    let ps = places_read (meaning text) in
    record {
      objects = all_held k m text [] ps m a;
      unknown = λ t u. stored_at text ps m t ∙ unknown_kept text ps t u (m t);
      others = λ t n. stored_at text ps m t ∙ unnamed_kept text ps t n (m t);
    }
