-- A series, one object at a time.
use Rattle.std.proofs.Common.{◌≡◌, ℕ, zero, suc, ◌+◌, ◌-◌, ◌<◌, ◌≤◌, Bool, true, false, cond, ltb, List, [], ◌∷◌, length, take, drop, sym, refl, ap, ◌∙◌, subst, arith, length-drop, length-take, ltb-false}
use Rattle.tlv.specs.declared.fault.FaultKind.{FaultKind}
use Rattle.tlv.specs.declared.place.Place.{Place}
use Rattle.tlv.specs.declared.token.Token.{Token}
use Rattle.tlv.specs.declared.token.Token.TheVariants.{End, Primitive, Constructed}
use Rattle.tlv.specs.Objects.{TagRead, tag, broken, LengthRead, bad, len, tag_at, length_at, skip, Seen, end, primitive, constructed, Next, fault, seen, object, sized, tagged, object_at, next_at}
use Rattle.tlv.specs.Series.{Reading, wrong, found, Reader, and_then, read_object, read_next, series_by, series}
use Rattle.tlv.specs.Told.{meant, inside_end}
use Rattle.tlv.proofs.Leaves.{past_tag, past_length, tag_shorter, length_shorter, skip_le}

-- how many bytes stand inside an object
abbrev pub inside_length : Seen → ℕ
inside_length end = 0
inside_length (primitive t at start v) = 0
inside_length (constructed t at start v) = length v

-- An object of m bytes that end at e: what follows it and its value are shorter, and its places stand in order before e.
pub record Fits (e m at start : ℕ) (value rest : List ℕ) : Type 0 where
  pub rest_less : length rest < m
  pub value_less : length value < m
  pub ordered : m ≤ e → at < start
  pub ends : m ≤ e → start + length value ≤ e
  pub from : m ≤ e → e ≤ at + m
  pub whole : m ≤ e → start + length value + length rest ≡ e

abbrev pub Shorter : ℕ → ℕ → Next → Type 0
Shorter e m (fault k at) = m ≤ e → at < e
Shorter e m (seen end rest) = Unit {0}
Shorter e m (seen (primitive t at start value) rest) = Fits e m at start value rest
Shorter e m (seen (constructed t at start value) rest) = Fits e m at start value rest

pub by_cond : {A : Type 0} (P : A → Type 0) (b : Bool) (x y : A) → (b ≡ true → P x) → (b ≡ false → P y) → P (cond b x y)
by_cond P true x y t f = t refl
by_cond P false x y t f = f refl

-- l is the number of bytes from the object's first byte to the end of the series
module _ (e l m : ℕ) (some : 0 < l) (within : l ≤ m) where
  object_fits : (n : ℕ) (rest : List ℕ) → length rest < l → n ≤ length rest → Fits e m (e - l) (e - length rest) (take n rest) (drop n rest)
  object_fits n rest h i = omega (arith, length-drop n rest, length-take n rest)

  object_shorter : (c : Bool) (t n : ℕ) (rest : List ℕ) → length rest < l → n ≤ length rest → Shorter e m (seen (object c t (e - l) (e - length rest) (take n rest)) (drop n rest))
  object_shorter false t n rest h i = object_fits n rest h i
  object_shorter true t n rest h i = object_fits n rest h i

  sized_shorter : (c : Bool) (t : ℕ) (r : LengthRead) → past_length r ≤ l → Shorter e m (sized e (e - l) c t r)
  sized_shorter c t bad h = omega arith
  sized_shorter c t (len n rest) h =
      by_cond (Shorter e m) (ltb (length rest) n) _ _ (λ _. omega arith) (λ fits. object_shorter c t n rest (omega arith) (ltb-false _ _ fits))

  tagged_shorter : (c : Bool) (r : TagRead) → past_tag r ≤ l → Shorter e m (tagged e (e - l) c r)
  tagged_shorter c (broken k) h = omega arith
  tagged_shorter c (tag t rest) h = sized_shorter c t (length_at rest) (omega (arith, length_shorter rest))

object_at_shorter : (e m : ℕ) (bs : List ℕ) → length bs ≤ m → Shorter e m (object_at e bs)
object_at_shorter e m [] h = tt
object_at_shorter e m (b ∷ bs) h = tagged_shorter e (length (b ∷ bs)) m (omega arith) h _ (tag_at (b ∷ bs)) (tag_shorter (b ∷ bs))

pub shorter : (e : ℕ) (bs : List ℕ) → Shorter e (length bs) (next_at e bs)
shorter e bs = object_at_shorter e (length bs) (skip bs) (skip_le bs)

-- Two readers that agree on fewer than m bytes read alike what stands next in m bytes.
and_then_same : (r : Reading) (f g : List Place → Reading) → ((b : List Place) → f b ≡ g b) → and_then r f ≡ and_then r g
and_then_same (wrong k at) f g h = refl
and_then_same (found b) f g h = h b

abbrev Agree : Reader → Reader → ℕ → Type 0
Agree f g m = (d e : ℕ) (bs : List ℕ) (before : List Place) → length bs < m → f d e bs before ≡ g d e bs before

read_next_same : (f g : Reader) (d e : ℕ) (before : List Place) (m : ℕ) (n : Next) → Shorter e m n → Agree f g m → read_next f d e before n ≡ read_next g d e before n
read_next_same f g d e before m (fault k at) s h = refl
read_next_same f g d e before m (seen end rest) s h = refl
read_next_same f g d e before m (seen (primitive t at start v) rest) s h =
    and_then_same (read_object g d before (primitive t at start v)) (f d e rest) (g d e rest) (λ b. h d e rest b s.rest_less)
read_next_same f g d e before m (seen (constructed t at start v) rest) s h =
    rw (h (d + 1) (start + length v) v before s.value_less) (and_then_same (read_object g d before (constructed t at start v)) (f d e rest) (g d e rest) (λ b. h d e rest b s.rest_less))

-- More calls than bytes are enough.
series_by_same : (j k d e : ℕ) (bs : List ℕ) (before : List Place) → length bs < j → length bs < k → series_by j d e bs before ≡ series_by k d e bs before
unfolding series_by
series_by_same zero k d e bs before h i = absurd (omega arith)
series_by_same (suc j) zero d e bs before h i = absurd (omega arith)
series_by_same (suc j) (suc k) d e bs before h i =
    read_next_same (series_by j) (series_by k) d e before (length bs) (next_at e bs) (shorter e bs)
    (λ d' e' bs' before' l. series_by_same j k d' e' bs' before' (omega arith) (omega arith))

-- The rule of a series, with no count of calls.
pub series_rule : (d e : ℕ) (bs : List ℕ) (before : List Place) → series d e bs before ≡ read_next series d e before (next_at e bs)
unfolding series series_by
series_rule d e bs before =
    read_next_same (series_by (length bs)) series d e before (length bs) (next_at e bs) (shorter e bs)
    (λ d' e' bs' before' l. series_by_same (length bs) (suc (length bs')) d' e' bs' before' l (omega arith))

-- The token k, which is not the end, was read at the front of bs, and rest is what follows it.
pub record Turn (e : ℕ) (bs rest : List ℕ) (k : Token) : Type 0 where
  pub apart : k ≡ End → ⊥
  pub read : seen (meant k) rest ≡ next_at e bs

module _ {e : ℕ} {bs rest : List ℕ} {k : Token} (turn : Turn e bs rest k) where
  parts : Shorter e (length bs) (seen (meant k) rest)
  parts = subst (Shorter e (length bs)) (sym turn.read) (shorter e bs)

  pub rest_shorter : length rest < length bs
  rest_shorter = go k turn.apart parts
    where
      go : (k : Token) → (k ≡ End → ⊥) → Shorter e (length bs) (seen (meant k) rest) → length rest < length bs
      go End n s = absurd (n refl)
      go (Primitive t at start v) n s = s.rest_less
      go (Constructed t at start v) n s = s.rest_less

  pub inside_shorter : length bs ≤ e → (inside_length (meant k) < length bs) × (inside_end (meant k) ≤ e)
  inside_shorter within = go k turn.apart parts
    where
      go : (k : Token) → (k ≡ End → ⊥) → Shorter e (length bs) (seen (meant k) rest) → (inside_length (meant k) < length bs) × (inside_end (meant k) ≤ e)
      go End n s = absurd (n refl)
      go (Primitive t at start v) n s = omega (arith, s.rest_less)
      go (Constructed t at start v) n s = (s.value_less, s.ends within)

  -- The series goes on from what reading the object gave, r.
  pub after_object : (d : ℕ) (before : List Place) (r : Reading) → r ≡ read_object series d before (meant k) → and_then r (series d e rest) ≡ series d e bs before
  after_object d before r is =
      ap (λ (x : Reading). and_then x (series d e rest)) is ∙ go k turn.apart ∙ ap (read_next series d e before) turn.read ∙ sym (series_rule d e bs before)
    where
      go : (k : Token) → (k ≡ End → ⊥) → and_then (read_object series d before (meant k)) (series d e rest) ≡ read_next series d e before (seen (meant k) rest)
      go End n = absurd (n refl)
      go (Primitive t at start v) n = refl
      go (Constructed t at start v) n = refl

pub at_fault : (d e : ℕ) (bs : List ℕ) (before : List Place) (k : FaultKind) (at : ℕ) → fault k at ≡ next_at e bs → wrong k at ≡ series d e bs before
at_fault d e bs before k at h = ap (read_next series d e before) h ∙ sym (series_rule d e bs before)

pub at_end_lem : (d e : ℕ) (bs rest : List ℕ) (before : List Place) (k : Token) → k ≡ End → seen (meant k) rest ≡ next_at e bs → found before ≡ series d e bs before
at_end_lem d e bs rest before k is h = ap (λ x. read_next series d e before (seen (meant x) rest)) (sym is) ∙ ap (read_next series d e before) h ∙ sym (series_rule d e bs before)
