-- Objects stand one after the other: the primitive ones of a series, and the outermost ones.
use Rattle.std.proofs.Common.{◌≡◌, ℕ, suc, ◌+◌, ◌<◌, ◌≤◌, Bool, true, false, List, [], ◌∷◌, ◌++◌, length, sym, ap, ◌∙◌, subst, arith}
use Rattle.tlv.specs.declared.place.Place.{Place}
use Rattle.tlv.specs.Series.{place}
use Rattle.tlv.specs.Grammar.{TagBytes, one, two, three, Object, Item, places_of, Series, nothing, filler, primitive, constructed}
use Rattle.tlv.proofs.Accepts.{object_reads, object_ends, places_append}
use Rattle.judge.specs.Objects as judge
use Rattle.judge.specs.Objects.{plain, nested, places, list_next, outermost}
use Rattle.judge.proofs.Outermost.{outermost_rule}

-- the places ps rise, from lo on and below hi
abbrev pub Climbs : ℕ → ℕ → List Place → Type 0
Climbs lo hi [] = lo ≤ hi
Climbs lo hi (p ∷ ps) = (lo ≤ p.at) × Climbs (p.at + 1) hi ps

pub wider : (lo lo' hi hi' : ℕ) (ps : List Place) → lo' ≤ lo → hi ≤ hi' → Climbs lo hi ps → Climbs lo' hi' ps
wider lo lo' hi hi' [] l h c = omega arith
wider lo lo' hi hi' (p ∷ ps) l h c = (omega (arith, c.0), wider (p.at + 1) (p.at + 1) hi hi' ps (omega arith) h c.1)

climbs_append : (lo mid hi : ℕ) (ps qs : List Place) → Climbs lo mid ps → Climbs mid hi qs → Climbs lo hi (ps ++ qs)
climbs_append lo mid hi [] qs c d = wider mid lo hi hi qs c (omega arith) d
climbs_append lo mid hi (p ∷ ps) qs c d = (c.0, climbs_append (p.at + 1) mid hi ps qs c.1 d)

tag_some : {tb : List ℕ} {t : ℕ} → TagBytes tb t → 0 < length tb
tag_some (one a h) = omega arith
tag_some (two a b h i) = omega arith
tag_some (three a b c h i j) = omega arith

-- an object's value comes after its first byte
starts_after : {p : ℕ} {bs : List ℕ} {c : Bool} {t start : ℕ} {v rest : List ℕ} → Object p bs c t start v rest → p < start
starts_after o = omega (arith, tag_some o.tagged, o.starts)

pub series_climbs : {d p : ℕ} {bs : List ℕ} {is : List Item} → Series d p bs is → Climbs p (p + length bs) (places_of is)
series_climbs (nothing d p) = omega arith
series_climbs (filler d p bs is s) = wider (p + 1) p (p + 1 + length bs) (p + suc (length bs)) (places_of is) (omega arith) (omega arith) (series_climbs s)
series_climbs (primitive d p t start bs v rest is deep o s) =
    let after = starts_after o in
    let ends = object_ends o in
    (omega arith, wider (start + length v) (p + 1) (start + length v + length rest) (p + length bs) (places_of is) (omega arith) (omega arith) (series_climbs s))
series_climbs (constructed d p t start bs v rest inside is deep o i s) =
    let after = starts_after o in
    let ends = object_ends o in
    let both = climbs_append start (start + length v) (start + length v + length rest) (places_of inside) (places_of is) (series_climbs i) (series_climbs s) in
    subst (Climbs p (p + length bs)) (sym (places_append inside is)) (wider start p (start + length v + length rest) (p + length bs) (places_of inside ++ places_of is) (omega arith) (omega arith) both)

-- the outermost objects of bytes that begin with filler, or with an object
outermost_filler : (e : ℕ) (bs : List ℕ) → outermost e (0 ∷ bs) ≡ outermost e bs
outermost_filler e bs = outermost_rule e (0 ∷ bs) ∙ sym (outermost_rule e bs)

module _ {p : ℕ} {bs : List ℕ} {t start : ℕ} {v rest : List ℕ} where
  outermost_plain : Object p bs false t start v rest → outermost (p + length bs) bs ≡ plain (place t p start (length v)) ∷ outermost (start + length v + length rest) rest
  outermost_plain o =
      outermost_rule (p + length bs) bs
      ∙ ap (list_next (outermost (p + length bs))) (object_reads o)
      ∙ ap (λ e. plain (place t p start (length v)) ∷ outermost e rest) (object_ends o)

  outermost_nested : Object p bs true t start v rest → outermost (p + length bs) bs ≡ nested (place t p start (length v)) ∷ outermost (start + length v + length rest) rest
  outermost_nested o =
      outermost_rule (p + length bs) bs
      ∙ ap (list_next (outermost (p + length bs))) (object_reads o)
      ∙ ap (λ e. nested (place t p start (length v)) ∷ outermost e rest) (object_ends o)

pub outermost_climbs : {d p : ℕ} {bs : List ℕ} {is : List Item} → Series d p bs is → Climbs p (p + length bs) (places (outermost (p + length bs) bs))
outermost_climbs (nothing d p) = rw (outermost_rule (p + 0) []) (omega arith)
outermost_climbs (filler d p bs is s) =
    let e : p + 1 + length bs ≡ p + suc (length bs) = omega arith in
    let P : List judge.Object → Type 0 = λ os. Climbs p (p + suc (length bs)) (places os) in
    subst P (ap (λ n. outermost n bs) e ∙ sym (outermost_filler (p + suc (length bs)) bs))
    (wider (p + 1) p (p + 1 + length bs) (p + suc (length bs)) (places (outermost (p + 1 + length bs) bs)) (omega arith) (omega arith) (outermost_climbs s))
outermost_climbs (primitive d p t start bs v rest is deep o s) =
    let after = starts_after o in
    let ends = object_ends o in
    let P : List judge.Object → Type 0 = λ os. Climbs p (p + length bs) (places os) in
    subst P (sym (outermost_plain o))
    (omega arith, wider (start + length v) (p + 1) (start + length v + length rest) (p + length bs) (places (outermost (start + length v + length rest) rest)) (omega arith) (omega arith) (outermost_climbs s))
outermost_climbs (constructed d p t start bs v rest inside is deep o i s) =
    let after = starts_after o in
    let ends = object_ends o in
    let P : List judge.Object → Type 0 = λ os. Climbs p (p + length bs) (places os) in
    subst P (sym (outermost_nested o))
    (omega arith, wider (start + length v) (p + 1) (start + length v + length rest) (p + length bs) (places (outermost (start + length v + length rest) rest)) (omega arith) (omega arith) (outermost_climbs s))

-- The primitive objects of a series and its outermost ones are the same, up to the first constructed object.
pub data Agrees : List Place → List judge.Object → Type 0 where
  done : Agrees [] []
  same : (p : Place) (ps : List Place) (os : List judge.Object) → Agrees ps os → Agrees (p ∷ ps) (plain p ∷ os)
  cut : (p : Place) (ps : List Place) (os : List judge.Object) (hi : ℕ) → Climbs (p.at + 1) hi ps → Agrees ps (nested p ∷ os)

pub series_agrees : {d p : ℕ} {bs : List ℕ} {is : List Item} → Series d p bs is → Agrees (places_of is) (outermost (p + length bs) bs)
series_agrees (nothing d p) = rw (outermost_rule (p + 0) []) done
series_agrees (filler d p bs is s) =
    let e : p + 1 + length bs ≡ p + suc (length bs) = omega arith in
    subst (Agrees (places_of is)) (ap (λ n. outermost n bs) e ∙ sym (outermost_filler (p + suc (length bs)) bs)) (series_agrees s)
series_agrees (primitive d p t start bs v rest is deep o s) =
    subst (Agrees (place t p start (length v) ∷ places_of is)) (sym (outermost_plain o)) (same (place t p start (length v)) (places_of is) _ (series_agrees s))
series_agrees (constructed d p t start bs v rest inside is deep o i s) =
    let after = starts_after o in
    let both = climbs_append start (start + length v) (start + length v + length rest) (places_of inside) (places_of is) (series_climbs i) (series_climbs s) in
    let behind = wider start (p + 1) (start + length v + length rest) (start + length v + length rest) (places_of inside ++ places_of is) (omega arith) (omega arith) both in
    let all = subst (Climbs (p + 1) (start + length v + length rest)) (sym (places_append inside is)) behind in
    subst (Agrees (places_of (inside ++ is))) (sym (outermost_nested o)) (cut (place t p start (length v)) (places_of (inside ++ is)) _ (start + length v + length rest) all)
