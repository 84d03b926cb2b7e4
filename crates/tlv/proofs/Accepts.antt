-- Every text is read.
use Rattle.std.proofs.Common.{◌≡◌, ℕ, suc, ◌+◌, ◌-◌, ◌≤◌, Bool, List, [], ◌∷◌, ◌++◌, length, get_or, sym, refl, ap, ◌∙◌, append_assoc, append-nil, arith, length-append, le-ltb, lt-ltb, ne_eqb}
use Rattle.std.proofs.lemmas.List.{take_at, drop_at}
use Rattle.tlv.specs.declared.place.Place.{Place}
use Rattle.tlv.specs.Objects.{length_at, tag, len, marks_constructed, seen, object, tagged, sized, next_at}
use Rattle.tlv.specs.Series.{found, place, deepest, most_objects, read_next, series}
use Rattle.tlv.specs.Grammar.{TagBytes, one, two, three, LengthBytes, short, long, Object, Item, place_of, places_of, Series, nothing, filler, primitive, constructed}
use Rattle.tlv.proofs.Steps.{series_rule}

pub tag_reads :
    {tb : List ℕ} {t : ℕ} (e : ℕ) (more : List ℕ) → TagBytes tb t → (get_or tb 0 0 ≡ 0 → ⊥) →
    next_at e (tb ++ more) ≡ tagged e (e - length (tb ++ more)) (marks_constructed (get_or tb 0 0)) (tag t more)
tag_reads e more (one a h) n = rw (ne_eqb a 0 n, h)
tag_reads e more (two a b h l) n = rw (ne_eqb a 0 n, h, le-ltb 127 b (omega arith))
tag_reads e more (three a b c h l m) n = rw (ne_eqb a 0 n, h, lt-ltb 127 b (omega arith), le-ltb 127 c (omega arith))

pub length_reads : {lb : List ℕ} {n : ℕ} (more : List ℕ) → LengthBytes lb n → length_at (lb ++ more) ≡ len n more
length_reads more (short n h) = rw (lt-ltb n 128 h)
length_reads more (long n) = refl

pub object_made :
    {tb lb : List ℕ} {t : ℕ} (p e : ℕ) (v rest : List ℕ) → TagBytes tb t → LengthBytes lb (length v) → (get_or tb 0 0 ≡ 0 → ⊥) →
    e ≡ p + length (tb ++ (lb ++ (v ++ rest))) →
    next_at e (tb ++ (lb ++ (v ++ rest))) ≡ seen (object (marks_constructed (get_or tb 0 0)) t p (p + length tb + length lb) v) rest
object_made {tb} {lb} {t} p e v rest tags lengths n at =
    let whole = length-append tb (lb ++ (v ++ rest)) in
    let part = length-append lb (v ++ rest) in
    let body = length-append v rest in
    let first : e - length (tb ++ (lb ++ (v ++ rest))) ≡ p = omega arith in
    let starts : e - length (v ++ rest) ≡ p + length tb + length lb = omega arith in
    tag_reads e (lb ++ (v ++ rest)) tags n
    ∙ ap (sized e _ _ t) (length_reads (v ++ rest) lengths)
    ∙ rw (le-ltb (length (v ++ rest)) (length v) (omega arith), take_at v rest (length v) refl, drop_at v rest (length v) refl, first, starts)

module _ {p : ℕ} {bs : List ℕ} {c : Bool} {t start : ℕ} {v rest : List ℕ} (o : Object p bs c t start v rest) where
  pub object_reads : next_at (p + length bs) bs ≡ seen (object c t p start v) rest
  object_reads =
      ap (next_at (p + length bs)) o.made
      ∙ object_made p (p + length bs) v rest o.tagged o.sized o.no_filler (ap (λ xs. p + length xs) o.made)
      ∙ rw (o.marked, o.starts)

  pub object_ends : p + length bs ≡ start + length v + length rest
  object_ends =
      omega (
        arith,
        ap length o.made,
        length-append o.tag_bytes (o.length_bytes ++ (v ++ rest)),
        length-append o.length_bytes (v ++ rest),
        length-append v rest,
        o.starts,
      )

pub places_append : (is js : List Item) → places_of (is ++ js) ≡ places_of is ++ places_of js
places_append [] js = refl
places_append (i ∷ is) js = ap (λ ps. place_of i ∷ ps) (places_append is js)

pub length_places : (is : List Item) → length (places_of is) ≡ length is
length_places [] = refl
length_places (i ∷ is) = ap suc (length_places is)

pub reads : {d p : ℕ} {bs : List ℕ} {is : List Item} → Series d p bs is → (before : List Place) → length before + length is ≤ most_objects → series d (p + length bs) bs before ≡ found (before ++ places_of is)
reads (nothing d p) before few = series_rule d (p + 0) [] before ∙ ap found (sym (append-nil before))
reads (filler d p bs is s) before few =
    let e : p + suc (length bs) ≡ p + 1 + length bs = omega arith in
    rw e (series_rule d (p + 1 + length bs) (0 ∷ bs) before ∙ sym (series_rule d (p + 1 + length bs) bs before) ∙ reads s before few)
reads (primitive d p t start bs v rest is deep o s) before few =
    let added = before ++ place t p start (length v) ∷ [] in
    series_rule d (p + length bs) bs before
    ∙ ap (read_next series d (p + length bs) before) (object_reads o)
    ∙ rw (le-ltb deepest d deep, lt-ltb (length before) most_objects (omega arith), object_ends o)
    (reads s added (omega (arith, length-append before (place t p start (length v) ∷ []))) ∙ ap found (append_assoc before (place t p start (length v) ∷ []) (places_of is)))
reads (constructed d p t start bs v rest inside is deep o i s) before few =
    let both = length-append inside is in
    series_rule d (p + length bs) bs before
    ∙ ap (read_next series d (p + length bs) before) (object_reads o)
    ∙ rw (le-ltb deepest d deep, reads i before (omega arith), object_ends o)
    (reads s (before ++ places_of inside) (omega (arith, length-append before (places_of inside), length_places inside))
    ∙ ap found (append_assoc before (places_of inside) (places_of is) ∙ ap (λ ps. before ++ ps) (sym (places_append inside is))))
