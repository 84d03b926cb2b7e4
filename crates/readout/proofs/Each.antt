-- The wanted objects are those shown for the tags of the list.
use Rattle.std.proofs.Common.{◌≡◌, ℕ, List, [], ◌∷◌, ◌++◌, IfOk, Some, None, Ok, Err, Option, Result, refl, ap, ◌∙◌}
use Rattle.std.proofs.lemmas.Bool.{cond-true}
use Rattle.std.specs.List.{AllByRecursion}
use Rattle.store.specs.Map.{Map}
use Rattle.tlv.specs.Written.{is_tag}
use Rattle.readout.specs.declared.object.Absent.TheVariants.{Empty}
use Rattle.readout.specs.declared.refusal.ReadoutRefusal.{ReadoutRefusal}
use Rattle.readout.specs.Shown.{object_of, given, objects_at, AllTags}
use Rattle.readout.specs.Wanted.{wanted_tags, value_of, wanted_by, tags_in, wanted_at, each_of, wanted_objects, OnlyWanted}

given_each : (t : ℕ) (o : Option (List ℕ)) → given Empty t o ≡ (object_of t (value_of o) ∷ [])
given_each t None = refl
given_each t (Some v) = refl

pub each : (ts : List ℕ) (m : Map) → AllTags ts → objects_at Empty ts m ≡ each_of ts m
each [] m h = refl
each (t ∷ ts) m h =
    ap (λ xs. xs ++ objects_at Empty ts m) (cond-true (is_tag t) (given Empty t (m t)) [] h.0 ∙ given_each t (m t))
    ∙ ap (λ xs. object_of t (value_of (m t)) ∷ xs) (each ts m h.1)

pub wanted_is : (ts : List ℕ) (m : Map) → AllTags ts → Ok ts ≡ wanted_by m → objects_at Empty ts m ≡ wanted_objects m
wanted_is ts m h e = each ts m h ∙ ap (λ r. each_of (tags_in r) m) e

each_only : (ts : List ℕ) (m n : Map) → AllByRecursion (λ t. m t ≡ n t) ts → each_of ts m ≡ each_of ts n
each_only [] m n h = refl
each_only (t ∷ ts) m n h = ap (λ o. object_of t (value_of o) ∷ each_of ts m) h.0 ∙ ap (λ xs. object_of t (value_of (n t)) ∷ xs) (each_only ts m n h.1)

pub only_wanted : (m : Map) → OnlyWanted m
only_wanted m n e h = each_only (wanted_at m) m n h ∙ ap (λ o. each_of (tags_in (wanted_tags (value_of o))) n) e

-- what holds always holds where something is written
pub where_written : {P : Type 0} (r : Result ℕ ReadoutRefusal) → P → IfOk r (λ _. P)
where_written (Ok n) p = p
where_written (Err e) p = tt
