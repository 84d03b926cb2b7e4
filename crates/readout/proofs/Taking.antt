-- Taking the tags of a list one after the other.
use Rattle.std.proofs.Common.{◌≡◌, ℕ, zero, suc, ◌+◌, ◌-◌, ◌<◌, ◌≤◌, Bool, true, false, cond, ◌||◌, eqb, ltb, List, [], ◌∷◌, ◌++◌, length, get_or, take, set, Ok, Err, Result, sym, refl, ap, ◌∙◌, subst, arith, length-append, ltb-false, ltb-true}
use Rattle.std.proofs.lemmas.Bool.{cond-true, cond-false}
use Rattle.std.proofs.lemmas.List.{append-nil, append_assoc, take_more, take_more_set}
use Rattle.keyed.specs.declared.tag.Tag.{Tag}
use Rattle.keyed.specs.declared.list.NotAdded.{NotAdded}
use Rattle.keyed.specs.declared.list.NotAdded.TheVariants.{AlreadyThere, Full}
use Rattle.keyed.specs.Keys.{by, holds}
use Rattle.keyed.specs.Elements.{answer, grown}
use Rattle.tlv.specs.declared.fault.FaultKind.TheVariants.{TooMany}
use Rattle.tlv.specs.declared.fault.TextFault.{TextFault}
use Rattle.tlv.specs.Written.{is_tag}
use Rattle.readout.specs.Wanted.{done, cut, lists, listed_in, among, different, before, at_most, wanted_tags}
use Rattle.readout.specs.Shown.{AllTags}
use Rattle.readout.specs.Listing.{Next, end, filler, fault, want, next_of, numbers, after, goes_on}
use Rattle.readout.proofs.Tagged.{follow, rule, Shorter, shorter}

-- the tags of a keyed list, as numbers
abbrev pub same : Tag → Tag → Bool
same = by (λ (x : Tag). x.value) eqb

pub numbers_append : (xs ys : List Tag) → numbers (xs ++ ys) ≡ numbers xs ++ numbers ys
numbers_append [] ys = refl
numbers_append (x ∷ xs) ys = ap (λ ts. x.value ∷ ts) (numbers_append xs ys)

pub numbers_length : (xs : List Tag) → length (numbers xs) ≡ length xs
numbers_length [] = refl
numbers_length (x ∷ xs) = ap suc (numbers_length xs)

pub holds_among : (xs : List Tag) (x : Tag) → holds same xs x ≡ among x.value (numbers xs)
holds_among [] x = refl
holds_among (y ∷ ys) x = ap (λ b. eqb y.value x.value || b) (holds_among ys x)

-- what adding a tag answered
abbrev pub Answered : Result (Unit {0}) NotAdded → List ℕ → ℕ → Type 0
Answered (Ok _) held t = (among t held ≡ false) × (length held < 64)
Answered (Err AlreadyThere) held t = among t held ≡ true
Answered (Err Full) held t = (among t held ≡ false) × (64 ≤ length held)

pub answered : (a : Result (Unit {0}) NotAdded) (room : ℕ) (xs : List Tag) (x : Tag) → room ≡ 64 → a ≡ answer same room xs x → Answered a (numbers xs) x.value
answered a room xs x r e = go (holds same xs x) (ltb (length xs) room) (sym (holds_among xs x)) refl e
  where
    go : (h l : Bool) → among x.value (numbers xs) ≡ h → ltb (length xs) room ≡ l → a ≡ cond h (Err AlreadyThere) (cond l (Ok tt) (Err Full)) → Answered a (numbers xs) x.value
    go true l p q f = subst (λ b. Answered b (numbers xs) x.value) (sym f) p
    go false true p q f =
        let n = numbers_length xs in
        let k = ltb-true (length xs) room q in
        subst (λ b. Answered b (numbers xs) x.value) (sym f) (p, omega arith)
    go false false p q f =
        let n = numbers_length xs in
        let k = ltb-false (length xs) room q in
        subst (λ b. Answered b (numbers xs) x.value) (sym f) (p, omega arith)

module _ (e : ℕ) (held bs : List ℕ) where
  at_next : (n : Next) → n ≡ next_of e bs → goes_on e held bs ≡ after held (at_most (64 - length held) (different held (follow (listed_in e) n)))
  unfolding goes_on
  at_next n q = ap (λ l. after held (at_most (64 - length held) (different held l))) (rule e bs ∙ ap (follow (listed_in e)) (sym q))

  pub at_end_lem : end ≡ next_of e bs → Ok held ≡ goes_on e held bs
  at_end_lem q = sym (at_next end q ∙ ends (64 - length held))
    where
      ends : (k : ℕ) → after held (at_most k done) ≡ Ok held
      ends zero = ap Ok (append-nil held)
      ends (suc k) = ap Ok (append-nil held)

  pub at_filler : (rest : List ℕ) → filler rest ≡ next_of e bs → goes_on e held rest ≡ goes_on e held bs
  unfolding goes_on
  at_filler rest q = sym (at_next (filler rest) q)

  pub at_fault : (f : TextFault) → fault f.kind f.at ≡ next_of e bs → Err f ≡ goes_on e held bs
  at_fault f q = sym (at_next (fault f.kind f.at) q ∙ cuts (64 - length held))
    where
      cuts : (k : ℕ) → after held (at_most k (cut f.kind f.at)) ≡ Err f
      cuts zero = refl
      cuts (suc k) = refl

  pub less : (n : Next) → n ≡ next_of e bs → Shorter (length bs) n
  less n q = let P : Next → Type 0 = λ x. Shorter (length bs) x in subst P (sym q) (shorter e bs)

  module _ (t at : ℕ) (rest : List ℕ) (q : want t at rest ≡ next_of e bs) where
    pub at_repeat : among t held ≡ true → goes_on e held rest ≡ goes_on e held bs
    unfolding goes_on
    at_repeat h = sym (at_next (want t at rest) q ∙ ap (λ l. after held (at_most (64 - length held) l)) (cond-true (among t held) _ _ h))

    new : among t held ≡ false → different held (lists t at (listed_in e rest)) ≡ lists t at (different (held ++ t ∷ []) (listed_in e rest))
    new h = cond-false (among t held) _ _ h

    pub at_full : among t held ≡ false → 64 ≤ length held → Err (record { kind = TooMany; at = at }) ≡ goes_on e held bs
    at_full h l =
        let z : 64 - length held ≡ 0 = omega arith in
        sym (at_next (want t at rest) q ∙ ap (λ x. after held (at_most (64 - length held) x)) (new h) ∙ ap (λ k. after held (at_most k (lists t at (different (held ++ t ∷ []) (listed_in e rest))))) z)

    moved : (r : Result (List ℕ) TextFault) → after held (before t r) ≡ after (held ++ t ∷ []) r
    moved (Ok ts) = ap Ok (sym (append_assoc held (t ∷ []) ts))
    moved (Err f) = refl

    pub at_new : among t held ≡ false → length held < 64 → goes_on e (held ++ t ∷ []) rest ≡ goes_on e held bs
    unfolding goes_on
    at_new h l =
        let n = length-append held (t ∷ []) in
        let k : 64 - length held ≡ suc (64 - length (held ++ t ∷ [])) = omega arith in
        let new' = different (held ++ t ∷ []) (listed_in e rest) in
        sym (at_next (want t at rest) q ∙ ap (λ x. after held (at_most (64 - length held) x)) (new h) ∙ ap (λ j. after held (at_most j (lists t at new'))) k
        ∙ moved (at_most (64 - length (held ++ t ∷ [])) new'))

-- one tag more
pub tags_more : (xs : List ℕ) (t : ℕ) → AllTags xs → is_tag t ≡ true → AllTags (xs ++ t ∷ [])
tags_more [] t a h = (h, tt)
tags_more (x ∷ xs) t a h = (a.0, tags_more xs t a.1 h)

-- the step by what the addition answered, when it is not full
pub record Went (e : ℕ) (held bs rest held' : List ℕ) : Type 0 where
  pub on : goes_on e held' rest ≡ goes_on e held bs
  pub tags : AllTags held → AllTags held'

pub went : (e : ℕ) (xs ys : List Tag) (bs : List ℕ) (x : Tag) (t at : ℕ) (rest : List ℕ) (a : Result (Unit {0}) NotAdded) (room : ℕ) → want t at rest ≡ next_of e bs → x.value ≡ t → is_tag t ≡ true
    → room ≡ 64 → a ≡ answer same room xs x → ys ≡ grown a xs x → (a ≡ Err Full → ⊥) → Went e (numbers xs) bs rest (numbers ys)
went e xs ys bs x t at rest a room q s h r is g full =
    let P : List ℕ → Type 0 = λ ns. Went e (numbers xs) bs rest ns in
    subst P (sym (ap numbers g)) (by_answer a full (answered a room xs x r is))
  where
    w : want x.value at rest ≡ next_of e bs
    w = ap (λ u. want u at rest) s ∙ q

    i : is_tag x.value ≡ true
    i = ap is_tag s ∙ h

    by_answer : (a : Result (Unit {0}) NotAdded) → (a ≡ Err Full → ⊥) → Answered a (numbers xs) x.value → Went e (numbers xs) bs rest (numbers (grown a xs x))
    by_answer (Ok _) f y =
        let P : List ℕ → Type 0 = λ ns. Went e (numbers xs) bs rest ns in
        subst P (sym (numbers_append xs (x ∷ []))) (record { on = at_new e (numbers xs) bs x.value at rest w y.0 y.1; tags = λ ts. tags_more (numbers xs) x.value ts i })
    by_answer (Err AlreadyThere) f y = record { on = at_repeat e (numbers xs) bs x.value at rest w y; tags = λ ts. ts }
    by_answer (Err Full) f y = absurd (f refl)

pub full_step : (e : ℕ) (xs : List Tag) (bs : List ℕ) (x : Tag) (t at : ℕ) (rest : List ℕ) (room : ℕ) → want t at rest ≡ next_of e bs → x.value ≡ t
    → room ≡ 64 → Err Full ≡ answer same room xs x → Err (record { kind = TooMany; at = at }) ≡ goes_on e (numbers xs) bs
full_step e xs bs x t at rest room q s r is =
    let y = answered (Err Full) room xs x r is in
    at_full e (numbers xs) bs x.value at rest (ap (λ u. want u at rest) s ∙ q) y.0 y.1

-- from the start
pub start : (v : List ℕ) → goes_on (length v) [] v ≡ wanted_tags v
unfolding goes_on wanted_tags
start v = whole (at_most 64 (different [] (listed_in (length v) v)))
  where
    whole : (r : Result (List ℕ) TextFault) → after [] r ≡ r
    whole (Ok ts) = refl
    whole (Err f) = refl

-- one number more
pub copied : (i x : ℕ) (tags : List Tag) (d : Tag) (out : List ℕ) → i < length tags → i < length out → take i out ≡ numbers (take i tags) → x ≡ (get_or tags i d).value → take (i + 1) (set out i x) ≡ numbers (take (i + 1) tags)
copied i x tags d out h k e q =
    take_more_set out i x k ∙ ap (λ ns. ns ++ x ∷ []) e ∙ ap (λ y. numbers (take i tags) ++ y ∷ []) q
    ∙ sym (ap numbers (take_more tags i d h) ∙ numbers_append (take i tags) (get_or tags i d ∷ []))

-- a list that was read: its numbers at the front of the array
pub front_is : (n : ℕ) (xs slice : List Tag) (out : List ℕ) → slice ≡ xs → take (length slice) out ≡ numbers slice → n ≡ length xs → take n out ≡ numbers xs
front_is n xs slice out e f q = ap (λ k. take k out) (q ∙ ap length (sym e)) ∙ f ∙ ap numbers e

pub take_within : (n : ℕ) (xs : List Tag) → length (take n xs) ≤ length xs
take_within zero xs = omega arith
take_within (suc n) [] = omega arith
take_within (suc n) (x ∷ xs) = let h = take_within n xs in omega arith
