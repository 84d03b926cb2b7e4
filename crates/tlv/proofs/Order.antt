-- Objects are found in the order of their places.
use Rattle.std.proofs.Common.{◌≡◌, ℕ, ◌-◌, ◌≤◌, false, eqb, List, [], ◌∷◌, length, sym, refl, subst, arith, ne_eqb}
use Rattle.tlv.specs.declared.place.Place.{Place}
use Rattle.tlv.specs.declared.token.Token.{Token}
use Rattle.tlv.specs.declared.token.Token.TheVariants.{End, Primitive, Constructed}
use Rattle.tlv.specs.Objects.{seen}
use Rattle.tlv.specs.Told.{meant}
use Rattle.tlv.proofs.Steps.{Shorter, shorter, Turn}
use Rattle.keyed.specs.Keys.{by, holds}
use Rattle.tlv.specs.Rising.{Before, Ordered, first_place, last_place}

pub before_later : (p q : ℕ) (ps : List Place) → p ≤ q → Before p ps → Before q ps
before_later p q [] h b = tt
before_later p q (x ∷ ps) h b = (omega (arith, b.0), before_later p q ps h b.1)

-- nothing before the place of x has its key
pub key_free : (x : Place) (ps : List Place) → Before x.at ps → holds (by (λ (p : Place). p.at) eqb) ps x ≡ false
key_free x [] b = refl
key_free x (y ∷ ps) b = let less = b.0 in rw (ne_eqb y.at x.at (λ same. omega arith)) (key_free x ps b.1)

pub record Placed (e : ℕ) (bs rest : List ℕ) (k : Token) : Type 0 where
  pub ordered : Ordered (meant k)
  pub first : e - length bs ≤ first_place (meant k)
  pub last : last_place (meant k) ≡ e - length rest

pub placed : {e : ℕ} {bs rest : List ℕ} {k : Token} → Turn e bs rest k → length bs ≤ e → Placed e bs rest k
placed {e} {bs} {rest} {k} turn h = go k turn.apart (subst (Shorter e (length bs)) (sym turn.read) (shorter e bs))
  where
    go : (k : Token) → (k ≡ End → ⊥) → Shorter e (length bs) (seen (meant k) rest) → Placed e bs rest k
    go End n s = absurd (n refl)
    go (Primitive t at start v) n s = record { ordered = s.ordered h; first = omega (arith, s.from h); last = omega (arith, s.whole h) }
    go (Constructed t at start v) n s = record { ordered = s.ordered h; first = omega (arith, s.from h); last = omega (arith, s.whole h) }
