-- Every faulty text is refused, with its first fault.
use Rattle.std.proofs.Common.{◌≡◌, ℕ, suc, ◌+◌, ◌-◌, ◌<◌, Bool, true, false, List, [], ◌∷◌, ◌++◌, length, get_or, sym, refl, ap, ◌∙◌, arith, length-append, le-ltb, lt-ltb, ne_eqb}
use Rattle.tlv.specs.declared.fault.FaultKind.{FaultKind}
use Rattle.tlv.specs.declared.fault.FaultKind.TheVariants.{TooDeep}
use Rattle.tlv.specs.declared.place.Place.{Place}
use Rattle.tlv.specs.Objects.{bad, length_at, object, sized, fault, seen, next_at}
use Rattle.tlv.specs.Series.{wrong, place, deepest, most_objects, read_next, series}
use Rattle.tlv.specs.Grammar.{TagBytes, one, two, three, places_of}
use Rattle.tlv.specs.Faults.{NoTag, one_byte, two_bytes, too_long, NoLength, none_left, long_cut, other_form, Broken, no_tag, no_length, past_end, Faulty, here, deep, many, filler, after_primitive, inside, after_constructed}
use Rattle.tlv.proofs.Steps.{series_rule, at_fault}
use Rattle.tlv.proofs.Accepts.{tag_reads, length_reads, object_reads, object_ends, reads, length_places}

tag_missing : {bs : List ℕ} {k : FaultKind} (e : ℕ) → NoTag bs k → (get_or bs 0 0 ≡ 0 → ⊥) → next_at e bs ≡ fault k (e - length bs)
tag_missing e (one_byte a h) n = rw (ne_eqb a 0 n, h)
tag_missing e (two_bytes a b h l) n = rw (ne_eqb a 0 n, h, lt-ltb 127 b (omega arith))
tag_missing e (too_long a b c rest h l m) n = rw (ne_eqb a 0 n, h, lt-ltb 127 b (omega arith), lt-ltb 127 c (omega arith))

length_missing : {bs : List ℕ} → NoLength bs → length_at bs ≡ bad
length_missing none_left = refl
length_missing long_cut = refl
length_missing (other_form n rest h other) = rw (le-ltb n 128 h, ne_eqb n 129 other)

-- the first byte of a tag is that of the bytes that begin with it
first_byte : {tb : List ℕ} {t : ℕ} (more : List ℕ) → TagBytes tb t → get_or (tb ++ more) 0 0 ≡ get_or tb 0 0
first_byte more (one a h) = refl
first_byte more (two a b h l) = refl
first_byte more (three a b c h l m) = refl

broken_reads : {bs : List ℕ} {k : FaultKind} (e : ℕ) → Broken bs k → (get_or bs 0 0 ≡ 0 → ⊥) → next_at e bs ≡ fault k (e - length bs)
broken_reads e (no_tag h) n = tag_missing e h n
broken_reads e (no_length tb more made tags none) n =
    rw made
    (tag_reads e more tags (λ z. n (ap (λ l. get_or l 0 0) made ∙ first_byte more tags ∙ z))
    ∙ ap (sized e _ _ _) (length_missing none))
broken_reads e (past_end {n = m} tb lb rest made tags lengths less) n =
    rw made
    (tag_reads e (lb ++ rest) tags (λ z. n (ap (λ l. get_or l 0 0) made ∙ first_byte (lb ++ rest) tags ∙ z))
    ∙ ap (sized e _ _ _) (length_reads rest lengths)
    ∙ rw (lt-ltb (length rest) m less))

too_deep : (c : Bool) (d e t p start : ℕ) (v rest : List ℕ) (before : List Place) → deepest < d → read_next series d e before (seen (object c t p start v) rest) ≡ wrong TooDeep p
too_deep true d e t p start v rest before h = rw (lt-ltb deepest d h)
too_deep false d e t p start v rest before h = rw (lt-ltb deepest d h)

pub refuses : {d p n : ℕ} {bs : List ℕ} {k : FaultKind} {q : ℕ} → Faulty d p bs n k q → (before : List Place) → length before ≡ n → series d (p + length bs) bs before ≡ wrong k q
refuses (here d p bs n k nf b) before count =
    let at : p + length bs - length bs ≡ p = omega arith in
    rw at at (sym (at_fault d (p + length bs) bs before k (p + length bs - length bs) (sym (broken_reads (p + length bs) b nf))))
refuses (deep d p t start bs v rest c n h o) before count =
    series_rule d (p + length bs) bs before
    ∙ ap (read_next series d (p + length bs) before) (object_reads o)
    ∙ too_deep c d (p + length bs) t p start v rest before h
refuses (many d p t start bs v rest n h full o) before count =
    series_rule d (p + length bs) bs before
    ∙ ap (read_next series d (p + length bs) before) (object_reads o)
    ∙ rw (le-ltb deepest d h, le-ltb (length before) most_objects (omega arith))
refuses (filler d p bs n k q f) before count =
    let e : p + suc (length bs) ≡ p + 1 + length bs = omega arith in
    rw e (series_rule d (p + 1 + length bs) (0 ∷ bs) before ∙ sym (series_rule d (p + 1 + length bs) bs before) ∙ refuses f before count)
refuses (after_primitive d p t start bs v rest n k q h room o f) before count =
    series_rule d (p + length bs) bs before
    ∙ ap (read_next series d (p + length bs) before) (object_reads o)
    ∙ rw (le-ltb deepest d h, lt-ltb (length before) most_objects (omega arith), object_ends o)
    (refuses f (before ++ place t p start (length v) ∷ []) (omega (arith, length-append before (place t p start (length v) ∷ []))))
refuses (inside d p t start bs v rest n k q h o f) before count =
    series_rule d (p + length bs) bs before
    ∙ ap (read_next series d (p + length bs) before) (object_reads o)
    ∙ rw (le-ltb deepest d h, refuses f before count)
refuses (after_constructed d p t start bs v rest within n k q h room o i f) before count =
    series_rule d (p + length bs) bs before
    ∙ ap (read_next series d (p + length bs) before) (object_reads o)
    ∙ rw (le-ltb deepest d h, reads i before (omega arith), object_ends o)
    (refuses f (before ++ places_of within) (omega (arith, length-append before (places_of within), length_places within)))
