-- One object written, and what reading a series of them gives.
use Rattle.std.proofs.Common.{◌≡◌, ℕ, zero, suc, ◌+◌, ◌-◌, ◌/◌, ◌%◌, ◌<◌, ◌≤◌, Bool, true, false, cond, not, ◌&&◌, eqb, ltb, List, [], ◌∷◌, ◌++◌, length, get_or, take, drop, map, sum, Some, None, Ok, Err, Option, Result, sym, refl, ap, ◌∙◌, arith, length-append, eq-eqb, ne_eqb}
use borrow.Rule.Slice.PartMut.{put_mid}
use Rattle.std.proofs.lemmas.Slice.{take-put_mid, drop-put_mid}
use Rattle.std.proofs.lemmas.Bool.{le-ltb, cond-true, cond-false}
use Rattle.std.proofs.lemmas.List.{take_at, append-nil, append_assoc}
use Rattle.std.proofs.lemmas.List.Sums.{sum-map, sum_by-cons}
use Rattle.std.specs.List.{AllByRecursion, sum_by}
use Rattle.std.specs.Option.{option_map}
use Rattle.std.specs.Result.{result_unwrap_or}
use Rattle.store.specs.Map.{Map}
use Rattle.tlv.specs.declared.write.WriteRefusal.{WriteRefusal}
use Rattle.tlv.specs.declared.write.WriteRefusal.TheVariants.{NoTag, TooLong, Short}
use Rattle.tlv.specs.Objects.{object, seen, marks_constructed}
use Rattle.tlv.specs.Written.{is_tag, tag_bytes, length_bytes, head_bytes, object_bytes, at_front, write_answer, write_after}
use Rattle.tlv.proofs.Writing.{reads_back}
use Rattle.readout.specs.declared.object.Absent.{Absent}
use Rattle.readout.specs.declared.object.Absent.TheVariants.{LeftOut, Empty}
use Rattle.readout.specs.Shown.{Object, object_of, given, shown, objects_at, bytes_of, on_next, objects_by, AllTags}
use Rattle.readout.specs.Output.{some}
use Rattle.readout.specs.Laws.{OnlyAt}
use Rattle.readout.specs.Steps.{whole}

-- the sizes of an object
tag_size : (t : ℕ) → (1 ≤ length (tag_bytes t)) × (length (tag_bytes t) ≤ 3)
tag_size t = by (ltb t 256) (ltb t 65536)
  where
    by : (a b : Bool) → (1 ≤ length (cond a (t ∷ []) (cond b (t / 256 ∷ t % 256 ∷ []) (t / 65536 ∷ t / 256 % 256 ∷ t % 256 ∷ [])))) × (length (cond a (t ∷ []) (cond b (t / 256 ∷ t % 256 ∷ []) (t / 65536 ∷ t / 256 % 256 ∷ t % 256 ∷ []))) ≤ 3)
    by true b = (omega arith, omega arith)
    by false true = (omega arith, omega arith)
    by false false = (omega arith, omega arith)

length_size : (n : ℕ) → length (length_bytes n) ≤ 2
length_size n = by (ltb n 128)
  where
    by : (a : Bool) → length (cond a (n ∷ []) (129 ∷ n ∷ [])) ≤ 2
    by true = omega arith
    by false = omega arith

pub object_size : (t : ℕ) (v : List ℕ) → (1 ≤ length (object_bytes t v)) × (length (object_bytes t v) ≤ 5 + length v)
unfolding head_bytes
object_size t v =
    let a = length-append (tag_bytes t ++ length_bytes (length v)) v in
    let b = length-append (tag_bytes t) (length_bytes (length v)) in
    let c = tag_size t in
    let d = length_size (length v) in
    (omega (arith, c.0), omega (arith, c.1))

-- an object that was written
taken : (a b c : Bool) (size n : ℕ) → Ok size ≡ cond (not a) (Err NoTag) (cond b (Err TooLong) (cond c (Err Short) (Ok n))) → (a ≡ true) × (size ≡ n)
taken true false false size n e = (refl, cc)
taken true false true size n e = let z : ◌≡◌ {A = ℕ} 0 1 = cc in absurd (omega arith)
taken true true c size n e = let z : ◌≡◌ {A = ℕ} 0 1 = cc in absurd (omega arith)
taken false b c size n e = let z : ◌≡◌ {A = ℕ} 0 1 = cc in absurd (omega arith)

refused : (a b c : Bool) (k : WriteRefusal) (n : ℕ) → Err k ≡ cond (not a) (Err NoTag) (cond b (Err TooLong) (cond c (Err Short) (Ok n))) → b ≡ false → c ≡ false → a ≡ false
refused true false false k n e f g = let z : ◌≡◌ {A = ℕ} 0 1 = cc in absurd (omega arith)
refused true false true k n e f g = let z : ◌≡◌ {A = ℕ} 0 1 = cc in absurd (omega arith)
refused true true c k n e f g = let z : ◌≡◌ {A = ℕ} 0 1 = cc in absurd (omega arith)
refused false b c k n e f g = refl

pub whole_bytes : (t : ℕ) (v : List ℕ) → is_tag t ≡ true → bytes_of (whole t v) ≡ object_bytes t v
whole_bytes t v h = ap bytes_of (cond-true (is_tag t) (object_of t v ∷ []) [] h) ∙ append-nil (object_bytes t v)

pub whole_none : (t : ℕ) (v : List ℕ) → is_tag t ≡ false → bytes_of (whole t v) ≡ []
whole_none t v h = ap bytes_of (cond-false (is_tag t) (object_of t v ∷ []) [] h)

module _ (t room : ℕ) (v : List ℕ) (few : length v ≤ 255) (fits : 260 ≤ room) where
  pub written : (size : ℕ) (out out' : List ℕ) → Ok size ≡ write_answer t v room → out' ≡ at_front (object_bytes t v) out
      → (size ≡ length (bytes_of (whole t v))) × (take size out' ≡ bytes_of (whole t v)) × (size ≤ 260)
  written size out out' e a =
      let p = taken (is_tag t) (ltb 255 (length v)) (ltb room (length (object_bytes t v))) size (length (object_bytes t v)) e in
      let w = whole_bytes t v p.0 in
      let s = object_size t v in
      (p.1 ∙ sym (ap length w), ap (take size) a ∙ take_at (object_bytes t v) (drop (length (object_bytes t v)) out) size (sym p.1) ∙ sym w, omega (arith, p.1, s.1))

  pub unwritten : (k : WriteRefusal) → Err k ≡ write_answer t v room → bytes_of (whole t v) ≡ []
  unwritten k e =
      let s = object_size t v in
      whole_none t v (refused (is_tag t) (ltb 255 (length v)) (ltb room (length (object_bytes t v))) k (length (object_bytes t v)) e (le-ltb 255 (length v) few) (le-ltb room (length (object_bytes t v)) (omega (arith, s.1))))

  pub put_bytes : (n : ℕ) (r : Result ℕ WriteRefusal) (out out' : List ℕ) → r ≡ write_answer t v room → out' ≡ write_after r t v out → n ≡ result_unwrap_or r 0 → take (n - 0) out' ≡ bytes_of (whole t v)
  put_bytes n (Ok size) out out' e a is = let z : n - 0 ≡ size = omega arith in ap (λ k. take k out') z ∙ (written size out out' e a).1
  put_bytes n (Err k) out out' e a is = let z : n - 0 ≡ 0 = omega arith in ap (λ k. take k out') z ∙ sym (unwritten k e)

-- bytes of one series after another
pub bytes_append : (xs ys : List Object) → bytes_of (xs ++ ys) ≡ bytes_of xs ++ bytes_of ys
bytes_append [] ys = refl
bytes_append (x ∷ xs) ys = ap (λ w. object_bytes x.tag x.value ++ w) (bytes_append xs ys) ∙ sym (append_assoc (object_bytes x.tag x.value) (bytes_of xs) (bytes_of ys))

-- every object that is shown has a tag
abbrev pub Tags : List Object → Type 0
Tags = AllByRecursion (λ x. is_tag x.tag ≡ true)

both : (xs ys : List Object) → Tags xs → Tags ys → Tags (xs ++ ys)
both [] ys a b = b
both (x ∷ xs) ys a b = (a.0, both xs ys a.1 b)

given_tags : (a : Absent) (t : ℕ) (o : Option (List ℕ)) → is_tag t ≡ true → Tags (given a t o)
given_tags a t (Some v) h = (h, tt)
given_tags LeftOut t None h = tt
given_tags Empty t None h = (h, tt)

shown_tags : (a : Absent) (t : ℕ) (o : Option (List ℕ)) → Tags (shown a t o)
shown_tags a t o = by (is_tag t) (given_tags a t o)
  where
    by : (b : Bool) → (b ≡ true → Tags (given a t o)) → Tags (cond b (given a t o) [])
    by true f = f refl
    by false f = tt

pub all_tags : (a : Absent) (ts : List ℕ) (m : Map) → Tags (objects_at a ts m)
all_tags a [] m = tt
all_tags a (t ∷ ts) m = both (shown a t (m t)) (objects_at a ts m) (shown_tags a t (m t)) (all_tags a ts m)

-- an object and the rest of a series
seen_on : (again : List ℕ → Option (List Object)) (c : Bool) (t at start : ℕ) (v rest : List ℕ) → on_next again (seen (object c t at start v) rest) ≡ option_map (λ xs. object_of t v ∷ xs) (again rest)
seen_on again true t at start v rest = refl
seen_on again false t at start v rest = refl

pub reads : (xs : List Object) (k : ℕ) → Tags xs → length (bytes_of xs) < k → objects_by k (bytes_of xs) ≡ Some xs
unfolding objects_by
reads xs zero h l = absurd (omega arith)
reads [] (suc k) h l = refl
reads (x ∷ xs) (suc k) h l =
    let t = x.tag in
    let v = x.value in
    let s = object_size t v in
    let n = length-append (object_bytes t v) (bytes_of xs) in
    let less : length (bytes_of xs) < k = omega (arith, s.0) in
    ap (on_next (λ rest. objects_by k rest)) (reads_back t v h.0 (bytes_of xs))
    ∙ seen_on (λ rest. objects_by k rest) (marks_constructed (get_or (tag_bytes t) 0 0)) t 0 (length (object_bytes t v) - length v) v (bytes_of xs)
    ∙ ap (option_map (λ ys. x ∷ ys)) (reads xs k h.1 less)

-- no bytes, no object
pub some_of : (xs : List Object) (n : ℕ) → n ≡ length (bytes_of xs) → not (eqb n 0) ≡ some (xs ++ [])
some_of [] n e = ap not (eq-eqb n 0 e)
some_of (x ∷ xs) n e =
    let s = object_size x.tag x.value in
    let l = length-append (object_bytes x.tag x.value) (bytes_of xs) in
    ap not (ne_eqb n 0 (λ z. omega (arith, s.0)))

-- the objects shown depend on the map at these tags alone
pub only_at : (a : Absent) (ts : List ℕ) → OnlyAt a ts
only_at a [] m n h = refl
only_at a (t ∷ ts) m n h = ap (λ o. shown a t o ++ objects_at a ts m) h.0 ∙ ap (λ xs. shown a t (n t) ++ xs) (only_at a ts m n h.1)

-- the sizes of the objects of tags
pub sum_sizes : (a : Absent) (ts : List ℕ) (m : Map) → sum (map (λ t. length (bytes_of (shown a t (m t)))) ts) ≡ length (bytes_of (objects_at a ts m))
sum_sizes a ts m = sum-map (λ t. length (bytes_of (shown a t (m t)))) ts ∙ by ts
  where
    by : (ts : List ℕ) → sum_by (λ t. length (bytes_of (shown a t (m t)))) ts ≡ length (bytes_of (objects_at a ts m))
    by [] = refl
    by (t ∷ ts) =
        sum_by-cons (λ t. length (bytes_of (shown a t (m t)))) t ts ∙ ap (λ n. length (bytes_of (shown a t (m t))) + n) (by ts)
        ∙ sym (ap length (bytes_append (shown a t (m t)) (objects_at a ts m)) ∙ length-append (bytes_of (shown a t (m t))) (bytes_of (objects_at a ts m)))

-- a part of a buffer written over
module _ (a k n : ℕ) (xs ys zs : List ℕ) (e : ys ≡ zs) (s : n ≡ a + length zs) (t : k ≡ length zs) (h : n ≤ length xs) where
  pub pasted_front : take n (put_mid a k xs ys) ≡ take a xs ++ zs
  pasted_front = let l = ap length e in take-put_mid a k xs ys n (omega arith) (omega arith) ∙ ap (λ w. take a xs ++ w) e

  pub pasted_back : drop n (put_mid a k xs ys) ≡ drop n xs
  pasted_back = let l = ap length e in drop-put_mid a k xs ys n (omega arith) (omega arith) (omega arith)

-- whether all numbers are those of tags, computed
abbrev all_are : List ℕ → Bool
all_are [] = true
all_are (t ∷ ts) = is_tag t && all_are ts

pub by_test : (ts : List ℕ) → all_are ts ≡ true → AllTags ts
by_test [] h = tt
by_test (t ∷ ts) h = go (is_tag t) (all_are ts) (by_test ts) h
  where
    go : (a b : Bool) → (b ≡ true → AllTags ts) → a && b ≡ true → (a ≡ true) × AllTags ts
    go true b f h = (refl, f h)
    go false b f h = absurd (let z : ◌≡◌ {A = ℕ} 0 1 = cc in omega arith)
