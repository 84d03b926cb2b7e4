-- A tag read from bytes is a tag, and what stands next in a list of them.
use Rattle.std.proofs.Common.{◌≡◌, ℕ, zero, suc, ◌+◌, ◌-◌, ◌*◌, ◌/◌, ◌%◌, ◌<◌, ◌≤◌, Bool, true, false, cond, not, ◌&&◌, eqb, ltb, List, [], ◌∷◌, length, get_or, sym, refl, ap, ◌∙◌, subst, arith, ltb-false, ltb-true, le-ltb, lt-ltb, ne_eqb}
use Rattle.std.proofs.lemmas.Bool.{cond-true, cond-false}
use Rattle.tlv.specs.declared.fault.FaultKind.TheVariants.{TagLong}
use Rattle.tlv.specs.Objects.{TagRead, tag, broken, tag_at, second_byte, third_byte, marks_more, bit8}
use Rattle.tlv.specs.Written.{is_tag}
use Rattle.tlv.proofs.Leaves.{past_tag, tag_shorter}
use Rattle.readout.specs.Wanted.{Listed, done, cut, lists, on_tag, listed_by, listed_in}
use Rattle.readout.specs.Listing.{Whole, Next, end, filler, fault, want, tagged, next_of}

-- a tag of one, two or three bytes
is_one : (a : ℕ) → a < 256 → (a ≡ 0 → ⊥) → marks_more a ≡ false → is_tag a ≡ true
is_one a h n m = cond-true (ltb a 256) _ _ (lt-ltb a 256 h) ∙ ap (λ b. not b && not (marks_more a)) (ne_eqb a 0 n) ∙ ap (λ b. not false && not b) m

is_two : (a b : ℕ) → a < 256 → b < 128 → (a ≡ 0 → ⊥) → marks_more a ≡ true → is_tag (a * 256 + b) ≡ true
is_two a b h k n m =
    let t = a * 256 + b in
    let some : 0 < a = omega arith in
    let e : t / 256 ≡ a = omega arith in
    let f : t % 256 ≡ b = omega arith in
    cond-false (ltb t 256) _ _ (le-ltb t 256 (omega arith)) ∙ cond-true (ltb t 65536) _ _ (lt-ltb t 65536 (omega arith))
    ∙ ap (λ x. marks_more x && not (bit8 (t % 256))) e ∙ ap (λ x. marks_more a && not (bit8 x)) f ∙ ap (λ x. x && not (bit8 b)) m ∙ ap (λ x. true && not x) (le-ltb 127 b (omega arith))

is_three : (a b c : ℕ) → a < 256 → b < 256 → 127 < b → c < 128 → (a ≡ 0 → ⊥) → marks_more a ≡ true → is_tag (a * 65536 + b * 256 + c) ≡ true
is_three a b c h l k j n m =
    let t = a * 65536 + b * 256 + c in
    let some : 0 < a = omega arith in
    let e : t / 65536 ≡ a = omega arith in
    let f : t / 256 % 256 ≡ b = omega arith in
    let g : t % 256 ≡ c = omega arith in
    cond-false (ltb t 256) _ _ (le-ltb t 256 (omega arith)) ∙ cond-false (ltb t 65536) _ _ (le-ltb t 65536 (omega arith))
    ∙ ap (λ x. x && (marks_more (t / 65536) && (bit8 (t / 256 % 256) && not (bit8 (t % 256))))) (lt-ltb t 16777216 (omega arith))
    ∙ ap (λ x. marks_more x && (bit8 (t / 256 % 256) && not (bit8 (t % 256)))) e
    ∙ ap (λ x. x && (bit8 (t / 256 % 256) && not (bit8 (t % 256)))) m
    ∙ ap (λ x. bit8 x && not (bit8 (t % 256))) f
    ∙ ap (λ x. x && not (bit8 (t % 256))) (lt-ltb 127 b k)
    ∙ ap (λ x. not (bit8 x)) g
    ∙ ap not (le-ltb 127 c (omega arith))

-- a tag that was read is a tag of 24 bits
abbrev WholeIn : TagRead → Type 0
WholeIn (broken k) = Unit {0}
WholeIn (tag t rest) = Whole t

module _ (a : ℕ) (some : a ≡ 0 → ⊥) (ha : a < 256) where
  third : (b : ℕ) (bs : List ℕ) → b < 256 → 127 < b → marks_more a ≡ true → WholeIn (third_byte a b bs)
  third b [] hb lb m = tt
  third b (c ∷ rest) hb lb m = by (bit8 c) refl
    where
      by : (x : Bool) → bit8 c ≡ x → WholeIn (cond x (broken TagLong) (tag (a * 65536 + b * 256 + c) rest))
      by true h = tt
      by false h = let l = ltb-false 127 c h in record { is = is_three a b c ha hb lb (omega arith) some m; small = omega arith }

  second : (bs : List ℕ) → get_or bs 0 0 < 256 → marks_more a ≡ true → WholeIn (second_byte a bs)
  second [] hb m = tt
  second (b ∷ rest) hb m = by (bit8 b) refl
    where
      by : (x : Bool) → bit8 b ≡ x → WholeIn (cond x (third_byte a b rest) (tag (a * 256 + b) rest))
      by true h = third b rest hb (ltb-true 127 b h) m
      by false h = let l = ltb-false 127 b h in record { is = is_two a b ha (omega arith) some m; small = omega arith }

  first : (bs : List ℕ) → get_or bs 0 0 < 256 → WholeIn (tag_at (a ∷ bs))
  first bs hb = by (marks_more a) refl
    where
      by : (x : Bool) → marks_more a ≡ x → WholeIn (cond x (second_byte a bs) (tag a bs))
      by true h = second bs hb h
      by false h = record { is = is_one a ha some h; small = omega arith }

pub whole_tag : (bs : List ℕ) (t : ℕ) (rest : List ℕ) → 1 ≤ length bs → ((i : ℕ) → get_or bs i 0 < 256) → (get_or bs 0 0 ≡ 0 → ⊥) → tag t rest ≡ tag_at bs → Whole t
whole_tag [] t rest l h n e = absurd (omega arith)
whole_tag (a ∷ bs) t rest l h n e = let P : TagRead → Type 0 = λ r. WholeIn r in subst P (sym e) (first a n (h 0) bs (h 1))

-- the tags of a list, by what stands next in it
abbrev pub follow : (List ℕ → Listed) → Next → Listed
follow again end = done
follow again (filler rest) = again rest
follow again (fault k at) = cut k at
follow again (want t at rest) = lists t at (again rest)

abbrev pub Shorter : ℕ → Next → Type 0
Shorter m end = Unit {0}
Shorter m (filler rest) = length rest < m
Shorter m (fault k at) = Unit {0}
Shorter m (want t at rest) = length rest < m

tagged_shorter : (m at : ℕ) (r : TagRead) → past_tag r ≤ m → Shorter m (tagged at r)
tagged_shorter m at (broken k) h = tt
tagged_shorter m at (tag t rest) h = omega arith

pub shorter : (e : ℕ) (bs : List ℕ) → Shorter (length bs) (next_of e bs)
shorter e [] = tt
shorter e (b ∷ bs) = by (eqb b 0)
  where
    by : (x : Bool) → Shorter (length (b ∷ bs)) (cond x (filler bs) (tagged (e - length (b ∷ bs)) (tag_at (b ∷ bs))))
    by true = omega arith
    by false = tagged_shorter (length (b ∷ bs)) (e - length (b ∷ bs)) (tag_at (b ∷ bs)) (tag_shorter (b ∷ bs))

follow_same : (m : ℕ) (f g : List ℕ → Listed) (n : Next) → Shorter m n → ((bs : List ℕ) → length bs < m → f bs ≡ g bs) → follow f n ≡ follow g n
follow_same m f g end s h = refl
follow_same m f g (filler rest) s h = h rest s
follow_same m f g (fault k at) s h = refl
follow_same m f g (want t at rest) s h = ap (lists t at) (h rest s)

on_tag_lem : (again : List ℕ → Listed) (at : ℕ) (r : TagRead) → on_tag at again r ≡ follow again (tagged at r)
on_tag_lem again at (broken k) = refl
on_tag_lem again at (tag t rest) = refl

by_next : (k e : ℕ) (bs : List ℕ) → listed_by (suc k) e bs ≡ follow (λ rest. listed_by k e rest) (next_of e bs)
unfolding listed_by
by_next k e [] = refl
by_next k e (b ∷ bs) = go (eqb b 0)
  where
    go : (x : Bool) → cond x (listed_by k e bs) (on_tag (e - length (b ∷ bs)) (λ rest. listed_by k e rest) (tag_at (b ∷ bs))) ≡ follow (λ rest. listed_by k e rest) (cond x (filler bs) (tagged (e - length (b ∷ bs)) (tag_at (b ∷ bs))))
    go true = refl
    go false = on_tag_lem (λ rest. listed_by k e rest) (e - length (b ∷ bs)) (tag_at (b ∷ bs))

by_same : (j k e : ℕ) (bs : List ℕ) → length bs < j → length bs < k → listed_by j e bs ≡ listed_by k e bs
by_same zero k e bs h i = absurd (omega arith)
by_same (suc j) zero e bs h i = absurd (omega arith)
by_same (suc j) (suc k) e bs h i =
    by_next j e bs
    ∙ follow_same (length bs) (λ rest. listed_by j e rest) (λ rest. listed_by k e rest) (next_of e bs) (shorter e bs) (λ rest l. by_same j k e rest (omega arith) (omega arith))
    ∙ sym (by_next k e bs)

pub rule : (e : ℕ) (bs : List ℕ) → listed_in e bs ≡ follow (listed_in e) (next_of e bs)
unfolding listed_in
rule e bs =
    by_next (length bs) e bs
    ∙ follow_same (length bs) (λ rest. listed_by (length bs) e rest) (listed_in e) (next_of e bs) (shorter e bs) (λ rest l. by_same (length bs) (suc (length rest)) e rest l (omega arith))
