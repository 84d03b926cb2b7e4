-- What is found are the objects of a text, and what is refused is the first fault of bytes that are no text.
use Rattle.std.proofs.Common.{◌≡◌, ℕ, zero, suc, ◌+◌, ◌-◌, ◌<◌, ◌≤◌, Bool, true, false, cond, eqb, ltb, List, [], ◌∷◌, ◌++◌, length, get_or, take, drop, sym, refl, ap, ◌∙◌, subst, append_assoc, append-nil, arith, length-append, take-append-drop, ltb-false, ltb-true, eqb-true}
use borrow.Author.Tests.{eqb-false}
use Rattle.std.proofs.lemmas.List.{length-take-le}
use Rattle.tlv.specs.declared.fault.FaultKind.{FaultKind}
use Rattle.tlv.specs.declared.place.Place.{Place}
use Rattle.tlv.specs.Objects as o
use Rattle.tlv.specs.Objects.{TagRead, broken, tag, LengthRead, len, tag_at, length_at, skip, marks_more, marks_constructed, bit8, Next, fault, seen, end, object, tagged, sized, object_at, next_at}
use Rattle.tlv.specs.Series.{Reading, wrong, found, place, deepest, most_objects, Reader, and_then, read_next, series_by, series, meaning}
use Rattle.tlv.specs.declared.fault.FaultKind.TheVariants.{TooDeep, TooMany}
use Rattle.tlv.specs.Grammar.{TagBytes, one, two, three, LengthBytes, short, long, Object, Item, item, places_of, Series, nothing, filler, primitive, constructed, Text}
use Rattle.tlv.specs.Faults as Faults
use Rattle.tlv.specs.Faults.{NoTag, one_byte, two_bytes, too_long, NoLength, none_left, long_cut, other_form, Broken, no_tag, no_length, past_end, Faulty, here, deep, many, after_primitive, inside, after_constructed}
use Rattle.tlv.proofs.Leaves.{skip_le}
use Rattle.tlv.proofs.Steps.{by_cond}
use Rattle.tlv.proofs.Accepts.{places_append, length_places}

-- the bytes behind a tag that was read
data TagView (xs : List ℕ) : TagRead → Type 0 where
  none : {k : FaultKind} → NoTag xs k → TagView xs (broken k)
  some : {t : ℕ} {rest : List ℕ} (tb : List ℕ) → xs ≡ tb ++ rest → TagBytes tb t → get_or tb 0 0 ≡ get_or xs 0 0 → TagView xs (tag t rest)

tag_view : (x : ℕ) (xs : List ℕ) → TagView (x ∷ xs) (tag_at (x ∷ xs))
tag_view a [] = by_cond (TagView (a ∷ [])) (marks_more a) _ _ (λ h. none (one_byte a h)) (λ h. some (a ∷ []) refl (one a h) refl)
tag_view a (b ∷ []) =
    by_cond (TagView (a ∷ b ∷ [])) (marks_more a) _ _
    (λ h. by_cond (TagView (a ∷ b ∷ [])) (bit8 b) _ _
    (λ i. let l = ltb-true 127 b i in none (two_bytes a b h (omega arith)))
    (λ i. let l = ltb-false 127 b i in some (a ∷ b ∷ []) refl (two a b h (omega arith)) refl))
    (λ h. some (a ∷ []) refl (one a h) refl)
tag_view a (b ∷ c ∷ xs) =
    let V = TagView (a ∷ b ∷ c ∷ xs) in
    by_cond V (marks_more a) _ _
    (λ h.
    by_cond V (bit8 b) _ _
    (λ i.
    let l = ltb-true 127 b i in
    by_cond V (bit8 c) _ _
    (λ j. let m = ltb-true 127 c j in none (too_long a b c xs h (omega arith) (omega arith)))
    (λ j. let m = ltb-false 127 c j in some (a ∷ b ∷ c ∷ []) refl (three a b c h (omega arith) (omega arith)) refl))
    (λ i. let l = ltb-false 127 b i in some (a ∷ b ∷ []) refl (two a b h (omega arith)) refl))
    (λ h. some (a ∷ []) refl (one a h) refl)

-- the bytes behind a length that was read
data LengthView (xs : List ℕ) : LengthRead → Type 0 where
  unsized : NoLength xs → LengthView xs o.bad
  a_length : {n : ℕ} {rest : List ℕ} (lb : List ℕ) → xs ≡ lb ++ rest → LengthBytes lb n → LengthView xs (len n rest)

length_view : (xs : List ℕ) → LengthView xs (length_at xs)
length_view [] = unsized none_left
length_view (n ∷ []) =
    let V = LengthView (n ∷ []) in
    by_cond V (ltb n 128) _ _
    (λ h. a_length (n ∷ []) refl (short n (ltb-true n 128 h)))
    (λ h. let l = ltb-false n 128 h in
    by_cond V (eqb n 129) _ _
    (λ i. unsized (subst (λ x. NoLength (x ∷ [])) (sym (eqb-true n 129 i)) long_cut))
    (λ i. unsized (other_form n [] l (eqb-false n 129 i))))
length_view (n ∷ m ∷ rest) =
    let V = LengthView (n ∷ m ∷ rest) in
    by_cond V (ltb n 128) _ _
    (λ h. a_length (n ∷ []) refl (short n (ltb-true n 128 h)))
    (λ h. let l = ltb-false n 128 h in
    by_cond V (eqb n 129) _ _
    (λ i. a_length (129 ∷ m ∷ []) (ap (λ x. x ∷ m ∷ rest) (eqb-true n 129 i)) (long m))
    (λ i. unsized (other_form n (m ∷ rest) l (eqb-false n 129 i))))

-- what stands behind the next token
data Front (e : ℕ) (xs : List ℕ) : Next → Type 0 where
  faulty : {k : FaultKind} → (get_or xs 0 0 ≡ 0 → ⊥) → Broken xs k → Front e xs (fault k (e - length xs))
  ended : {rest : List ℕ} → xs ≡ [] → Front e xs (seen end rest)
  plain : {t start : ℕ} {v rest : List ℕ} → Object (e - length xs) xs false t start v rest → Front e xs (seen (o.primitive t (e - length xs) start v) rest)
  nested : {t start : ℕ} {v rest : List ℕ} → Object (e - length xs) xs true t start v rest → Front e xs (seen (o.constructed t (e - length xs) start v) rest)

module _ (e : ℕ) (xs : List ℕ) (within : length xs ≤ e) (no_filler : get_or xs 0 0 ≡ 0 → ⊥) where
  object_front : (c : Bool) (t start : ℕ) (v rest : List ℕ) → Object (e - length xs) xs c t start v rest → Front e xs (seen (object c t (e - length xs) start v) rest)
  object_front true t start v rest ob = nested ob
  object_front false t start v rest ob = plain ob

  module _ (t : ℕ) (tb more : List ℕ) (split : xs ≡ tb ++ more) (tags : TagBytes tb t) (same : get_or tb 0 0 ≡ get_or xs 0 0) where
    sized_front : (r : LengthRead) → LengthView more r → Front e xs (sized e (e - length xs) (marks_constructed (get_or xs 0 0)) t r)
    sized_front r (unsized missing) = faulty no_filler (no_length tb more split tags missing)
    sized_front r (a_length {n} {rest} lb eq lengths) =
        by_cond (Front e xs) (ltb (length rest) n) _ _
        (λ h. faulty no_filler (past_end tb lb rest (split ∙ ap (λ l. tb ++ l) eq) tags lengths (ltb-true (length rest) n h)))
        (λ h.
        let fits = ltb-false (length rest) n h in
        object_front (marks_constructed (get_or xs 0 0)) t (e - length rest) (take n rest) (drop n rest) (record {
          tag_bytes = tb;
          length_bytes = lb;
          made = split ∙ ap (λ l. tb ++ l) (eq ∙ ap (λ l. lb ++ l) (sym (take-append-drop n rest)));
          tagged = tags;
          sized = subst (LengthBytes lb) (sym (length-take-le n rest fits)) lengths;
          marked = ap marks_constructed same;
          no_filler = λ z. no_filler (sym same ∙ z);
          starts = omega (arith, ap length split, length-append tb more, ap length eq, length-append lb rest);
        }))

  tagged_front : (r : TagRead) → TagView xs r → Front e xs (tagged e (e - length xs) (marks_constructed (get_or xs 0 0)) r)
  tagged_front r (none h) = faulty no_filler (no_tag h)
  tagged_front r (some {t} {rest} tb split tags same) = sized_front t tb rest split tags same (length_at rest) (length_view rest)

front : (e : ℕ) (xs : List ℕ) → length xs ≤ e → (get_or xs 0 1 ≡ 0 → ⊥) → Front e xs (object_at e xs)
front e [] within n = ended refl
front e (b ∷ bs) within n = tagged_front e (b ∷ bs) within n (tag_at (b ∷ bs)) (tag_view b bs)

wrong_found : (k : FaultKind) (at : ℕ) (ps : List Place) → wrong k at ≡ found ps → ⊥
wrong_found k at ps h = let z : ◌≡◌ {A = ℕ} 0 1 = cc in omega arith

found_same : (ps qs : List Place) → found ps ≡ found qs → ps ≡ qs
found_same ps qs h = cc

wrong_same : (k l : FaultKind) (p q : ℕ) → wrong k p ≡ wrong l q → (k ≡ l) × (p ≡ q)
wrong_same k l p q h = (cc, cc)

and_then_found : (r : Reading) (g : List Place → Reading) (all : List Place) → and_then r g ≡ found all → (mid : List Place) × (r ≡ found mid) × (g mid ≡ found all)
and_then_found (wrong k at) g all h = absurd (wrong_found k at all h)
and_then_found (found mid) g all h = (mid, refl, h)

cond_found : (b : Bool) (k : FaultKind) (at : ℕ) (r : Reading) (all : List Place) → cond b (wrong k at) r ≡ found all → (b ≡ false) × (r ≡ found all)
cond_found true k at r all h = absurd (wrong_found k at all h)
cond_found false k at r all h = (refl, h)

room_found : (b : Bool) (k : FaultKind) (at : ℕ) (r : Reading) (all : List Place) → cond b r (wrong k at) ≡ found all → (b ≡ true) × (r ≡ found all)
room_found true k at r all h = (refl, h)
room_found false k at r all h = absurd (wrong_found k at all h)

object_length : {p : ℕ} {bs : List ℕ} {c : Bool} {t start : ℕ} {v rest : List ℕ} → Object p bs c t start v rest → (length v + length rest < length bs) × (p + length bs ≡ start + length v + length rest)
object_length {v = v} {rest = rest} ob =
    let some-tag = tag_some ob.tagged in
    omega (
      arith,
      some-tag,
      ap length ob.made,
      length-append ob.tag_bytes (ob.length_bytes ++ (v ++ rest)),
      length-append ob.length_bytes (v ++ rest),
      length-append v rest,
      ob.starts,
    )
  where
    tag_some : {tb : List ℕ} {t : ℕ} → TagBytes tb t → 0 < length tb
    tag_some (one a h) = omega arith
    tag_some (two a b h i) = omega arith
    tag_some (three a b c h i j) = omega arith

-- all is before and then the objects of the series bs at p, and no more than a text may have
abbrev Grown : ℕ → ℕ → List ℕ → List Place → List Place → Type 0
Grown d p bs before all = (is : List Item) × (all ≡ before ++ places_of is) × Series d p bs is × (length all ≤ most_objects)

-- what a reader does with fewer than m bytes: it finds the objects of a series, or the first fault
pub record Right (f : Reader) (m : ℕ) : Type 0 where
  pub finds :
      (d e : ℕ) (bs : List ℕ) (before all : List Place) → length bs < m → length bs ≤ e → length before ≤ most_objects →
      f d e bs before ≡ found all → Grown d (e - length bs) bs before all
  pub faults :
      (d e : ℕ) (bs : List ℕ) (before : List Place) (k : FaultKind) (q : ℕ) → length bs < m → length bs ≤ e → length before ≤ most_objects →
      f d e bs before ≡ wrong k q → Faulty d (e - length bs) bs (length before) k q

module _ (f : Reader) (d e : ℕ) (xs : List ℕ) (before : List Place) (within : length xs ≤ e) (few : length before ≤ most_objects) (right : Right f (length xs)) where
  step_finds : (all : List Place) (n : Next) → Front e xs n → read_next f d e before n ≡ found all → Grown d (e - length xs) xs before all
  step_finds all n (faulty nf b) h = absurd (wrong_found _ _ _ h)
  step_finds all n (ended empty) h =
      let same = found_same _ _ h in
      ([], sym same ∙ sym (append-nil before), subst (λ l. Series d (e - length xs) l []) (sym empty) (nothing d (e - length xs)), omega (arith, ap length same))
  step_finds all n (plain {t} {start} {v} {rest} ob) h =
      let l = object_length ob in
      let (mid, got, more) = and_then_found _ (f d e rest) all h in
      let shallow = cond_found (ltb deepest d) _ _ _ mid got in
      let room = room_found (ltb (length before) most_objects) _ _ _ mid shallow.1 in
      let same = found_same _ _ room.1 in
      let less = ltb-true (length before) most_objects room.0 in
      let grew = length-append before (place t (e - length xs) start (length v) ∷ []) in
      let (is, eq, s, fits) = right.finds d e rest mid all (omega arith) (omega arith) (omega (arith, ap length same)) more in
      let next : e - length rest ≡ start + length v = omega arith in (
        item t (e - length xs) start v ∷ is,
        eq ∙ ap (λ q. q ++ places_of is) (sym same) ∙ append_assoc before (place t (e - length xs) start (length v) ∷ []) (places_of is),
        primitive d (e - length xs) t start xs v rest is (ltb-false deepest d shallow.0) ob (subst (λ q. Series d q rest is) next s),
        fits,
      )
  step_finds all n (nested {t} {start} {v} {rest} ob) h =
      let l = object_length ob in
      let (mid, got, more) = and_then_found _ (f d e rest) all h in
      let shallow = cond_found (ltb deepest d) _ _ _ mid got in
      let (within-it, begun, i, part) = right.finds (d + 1) (start + length v) v before mid (omega arith) (omega arith) few shallow.1 in
      let (is, eq, s, fits) = right.finds d e rest mid all (omega arith) (omega arith) part more in
      let next : e - length rest ≡ start + length v = omega arith in
      let from : start + length v - length v ≡ start = omega arith in (
        within-it ++ is,
        eq ∙ ap (λ q. q ++ places_of is) begun ∙ append_assoc before (places_of within-it) (places_of is) ∙ ap (λ ps. before ++ ps) (sym (places_append within-it is)),
        constructed d (e - length xs) t start xs v rest within-it is (ltb-false deepest d shallow.0) ob (subst (λ q. Series (d + 1) q v within-it) from i) (subst (λ q. Series d q rest is) next s),
        fits,
      )

  module _ (k : FaultKind) (q : ℕ) where
    abbrev First : Type 0
    First = Faulty d (e - length xs) xs (length before) k q

    -- the fault that was reported, at this object
    at_this : (l : FaultKind) → Faulty d (e - length xs) xs (length before) l (e - length xs) → wrong l (e - length xs) ≡ wrong k q → First
    at_this l first is =
        let same = wrong_same l k (e - length xs) q is in
        subst (λ x. Faulty d (e - length xs) xs (length before) x q) same.0 (subst (λ x. Faulty d (e - length xs) xs (length before) l x) same.1 first)

    plain_faults : (t start : ℕ) (v rest : List ℕ) → Object (e - length xs) xs false t start v rest → read_next f d e before (seen (o.primitive t (e - length xs) start v) rest) ≡ wrong k q → First
    plain_faults t start v rest ob h =
        let l = object_length ob in
        let next : e - length rest ≡ start + length v = omega arith in
        let grew = length-append before (place t (e - length xs) start (length v) ∷ []) in
        by_cond (λ r. and_then r (f d e rest) ≡ wrong k q → First) (ltb deepest d) _ _
        (λ below is. at_this TooDeep (deep d (e - length xs) t start xs v rest false (length before) (ltb-true deepest d below) ob) is)
        (λ shallow. by_cond (λ r. and_then r (f d e rest) ≡ wrong k q → First) (ltb (length before) most_objects) _ _
        (λ room is.
        let less = ltb-true (length before) most_objects room in
        let tail = right.faults d e rest (before ++ place t (e - length xs) start (length v) ∷ []) k q (omega arith) (omega arith) (omega arith) is in
        after_primitive d (e - length xs) t start xs v rest (length before) k q (ltb-false deepest d shallow) less ob
        (subst (λ p. Faulty d p rest (length before + 1) k q) next (subst (λ n. Faulty d (e - length rest) rest n k q) grew tail)))
        (λ full is. at_this TooMany (many d (e - length xs) t start xs v rest (length before) (ltb-false deepest d shallow) (ltb-false (length before) most_objects full) ob) is))
        h

    -- a constructed object whose inside was read to r
    inside_faults :
        (t start : ℕ) (v rest : List ℕ) → Object (e - length xs) xs true t start v rest → d ≤ deepest → (r : Reading) →
        f (d + 1) (start + length v) v before ≡ r → and_then r (f d e rest) ≡ wrong k q → First
    inside_faults t start v rest ob shallow (wrong l p) read is =
        let size = object_length ob in
        let from : start + length v - length v ≡ start = omega arith in
        let at = right.faults (d + 1) (start + length v) v before k q (omega arith) (omega arith) few (read ∙ is) in
        inside d (e - length xs) t start xs v rest (length before) k q shallow ob (subst (λ p. Faulty (d + 1) p v (length before) k q) from at)
    inside_faults t start v rest ob shallow (found mid) read is =
        let size = object_length ob in
        let from : start + length v - length v ≡ start = omega arith in
        let next : e - length rest ≡ start + length v = omega arith in
        let (within-it, begun, i, part) = right.finds (d + 1) (start + length v) v before mid (omega arith) (omega arith) few read in
        let grew : length mid ≡ length before + length within-it = ap length begun ∙ length-append before (places_of within-it) ∙ ap (λ n. length before + n) (length_places within-it) in
        let tail = right.faults d e rest mid k q (omega arith) (omega arith) part is in
        after_constructed d (e - length xs) t start xs v rest within-it (length before) k q shallow (omega arith) ob (subst (λ p. Series (d + 1) p v within-it) from i)
        (subst (λ p. Faulty d p rest (length before + length within-it) k q) next (subst (λ n. Faulty d (e - length rest) rest n k q) grew tail))

    step_faults : (n : Next) → Front e xs n → read_next f d e before n ≡ wrong k q → First
    step_faults n (faulty {k = l} nf b) h = at_this l (here d (e - length xs) xs (length before) l nf b) h
    step_faults n (ended empty) h = absurd (wrong_found k q before (sym h))
    step_faults n (plain {t} {start} {v} {rest} ob) h = plain_faults t start v rest ob h
    step_faults n (nested {t} {start} {v} {rest} ob) h =
        by_cond (λ r. and_then r (f d e rest) ≡ wrong k q → First) (ltb deepest d) _ _
        (λ below is. at_this TooDeep (deep d (e - length xs) t start xs v rest true (length before) (ltb-true deepest d below) ob) is)
        (λ shallow. inside_faults t start v rest ob (ltb-false deepest d shallow) (f (d + 1) (start + length v) v before) refl)
        h

-- filler before a series is part of it
unskip : (d e : ℕ) (bs : List ℕ) (is : List Item) → length bs ≤ e → Series d (e - length (skip bs)) (skip bs) is → Series d (e - length bs) bs is
unskip d e [] is h s = s
unskip d e (b ∷ bs) is h s =
    let next : e - length bs ≡ e - suc (length bs) + 1 = omega arith in
    by_cond (λ l. Series d (e - length l) l is → Series d (e - length (b ∷ bs)) (b ∷ bs) is) (eqb b 0) (skip bs) (b ∷ bs)
    (λ eq inner. rw (eqb-true b 0 eq) (filler d (e - suc (length bs)) bs is (subst (λ q. Series d q bs is) next (unskip d e bs is (omega arith) inner))))
    (λ eq same. same) s

unskip_faulty : (d e : ℕ) (bs : List ℕ) (n : ℕ) (k : FaultKind) (q : ℕ) → length bs ≤ e → Faulty d (e - length (skip bs)) (skip bs) n k q → Faulty d (e - length bs) bs n k q
unskip_faulty d e [] n k q h s = s
unskip_faulty d e (b ∷ bs) n k q h s =
    let next : e - length bs ≡ e - suc (length bs) + 1 = omega arith in
    by_cond (λ l. Faulty d (e - length l) l n k q → Faulty d (e - length (b ∷ bs)) (b ∷ bs) n k q) (eqb b 0) (skip bs) (b ∷ bs)
    (λ eq inner. rw (eqb-true b 0 eq) (Faults.filler d (e - suc (length bs)) bs n k q (subst (λ p. Faulty d p bs n k q) next (unskip_faulty d e bs n k q (omega arith) inner))))
    (λ eq same. same) s

skip_first : (bs : List ℕ) → get_or (skip bs) 0 1 ≡ 0 → ⊥
skip_first [] = λ h. omega arith
skip_first (b ∷ bs) = by_cond (λ l. get_or l 0 1 ≡ 0 → ⊥) (eqb b 0) (skip bs) (b ∷ bs) (λ eq. skip_first bs) (λ eq. eqb-false b 0 eq)

series_by_right : (k m : ℕ) → m ≤ k → Right (series_by k) m
unfolding series_by
series_by_right zero m h = record {
  finds = λ d e bs before all less within few eq. absurd (omega arith);
  faults = λ d e bs before l q less within few eq. absurd (omega arith);
}
series_by_right (suc k) m h = record {
  finds = λ d e bs before all less within few eq.
      let short = skip_le bs in
      let (is, grown, s, fits) =
      step_finds (series_by k) d e (skip bs) before (omega arith) few
      (series_by_right k (length (skip bs)) (omega arith)) all (next_at e bs)
      (front e (skip bs) (omega arith) (skip_first bs)) eq
      in
      (is, grown, unskip d e bs is within s, fits);
  faults = λ d e bs before l q less within few eq.
      let short = skip_le bs in
      unskip_faulty d e bs (length before) l q within
      (step_faults (series_by k) d e (skip bs) before (omega arith) few
      (series_by_right k (length (skip bs)) (omega arith)) l q (next_at e bs)
      (front e (skip bs) (omega arith) (skip_first bs)) eq);
}

module _ (text : List ℕ) where
  whole : Right (series_by (suc (length text))) (suc (length text))
  whole = series_by_right (suc (length text)) (suc (length text)) (omega arith)

  pub finds_objects : (ps : List Place) → meaning text ≡ found ps → (is : List Item) × Text text is × (ps ≡ places_of is)
  unfolding series
  finds_objects ps h =
      let (is, same, s, fits) = whole.finds 1 (length text) text [] ps (omega arith) (omega arith) (omega arith) h in
      let start : length text - length text ≡ 0 = omega arith in
      (is, record { series = subst (λ q. Series 1 q text is) start s; few = omega (arith, ap length same, length_places is) }, same)

  pub finds_fault : (k : FaultKind) (q : ℕ) → meaning text ≡ wrong k q → Faulty 1 0 text 0 k q
  unfolding series
  finds_fault k q h =
      let start : length text - length text ≡ 0 = omega arith in
      subst (λ p. Faulty 1 p text 0 k q) start (whole.faults 1 (length text) text [] k q (omega arith) (omega arith) (omega arith) h)
