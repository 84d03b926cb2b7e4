-- The steps of the loops that judge a text.
use Rattle.std.proofs.Common.{◌≡◌, ℕ, ◌+◌, ◌<◌, ◌≤◌, true, false, cond, ◌||◌, List, length, get_or, take, drop, Some, None, Err, Option, Result, sym, ap, ◌∙◌}
use Rattle.std.proofs.lemmas.List.{at_drop_more, at_drop_all, take_more}
use Rattle.std.proofs.lemmas.Bool.{eq-eqb, ne_eqb, cond-true, cond-false, or_left}
use Rattle.tlv.specs.declared.place.Place.{Place}
use Rattle.store.specs.Map.{Map}
use Rattle.judge.specs.declared.fault.ObjectFaultKind.{ObjectFaultKind}
use Rattle.judge.specs.declared.fault.ObjectFault.{ObjectFault}
use Rattle.judge.specs.declared.fault.ObjectFault.TheVariants as fault
use Rattle.judge.specs.declared.kind.TextKind.{TextKind}
use Rattle.judge.specs.Objects.{plain}
use Rattle.judge.specs.Rules.{named, breaks, lowest}
use Rattle.judge.specs.Judge.{on_fault}
use Rattle.judge.specs.Walk.{stands_before, unknown_at, walked}

module _ (t : ℕ) (ps : List Place) (i : ℕ) (d : Place) (h : i < length ps) where
  pub named_found : (get_or ps i d).tag ≡ t → true ≡ named t (drop i ps)
  named_found e = sym (at_drop_more (named t) ps i d h ∙ or_left _ _ (eq-eqb (get_or ps i d).tag t e))

  pub named_passed : ((get_or ps i d).tag ≡ t → ⊥) → named t (drop (i + 1) ps) ≡ named t (drop i ps)
  named_passed ne = sym (at_drop_more (named t) ps i d h ∙ ap (λ b. b || named t (drop (i + 1) ps)) (ne_eqb (get_or ps i d).tag t ne))

pub named_all : (t : ℕ) (ps : List Place) (i : ℕ) → length ps ≤ i → false ≡ named t (drop i ps)
named_all t ps i h = sym (at_drop_all (named t) ps i h)

module _ (k : TextKind) (m : Map) (text : List ℕ) (c : Option Place) (ps : List Place) (i : ℕ) (d : Place) (h : i < length ps) where
  -- from the object at i on
  abbrev pub from : ℕ → Result (Unit {0}) ObjectFault
  from j = walked k m text c (take j ps) (drop j ps)

  abbrev rule : List Place → Option ObjectFaultKind
  rule es = lowest (breaks k m text es (plain (get_or ps i d)))

  step : from i ≡ cond (stands_before c (get_or ps i d).at) (unknown_at c) (on_fault (rule (take i ps)) (get_or ps i d) (from (i + 1)))
  step =
      at_drop_more (walked k m text c (take i ps)) ps i d h
      ∙ ap (λ qs. cond (stands_before c (get_or ps i d).at) (unknown_at c) (on_fault (rule (take i ps)) (get_or ps i d) (walked k m text c qs (drop (i + 1) ps)))) (sym (take_more ps i d h))

  pub stops_constructed : stands_before c (get_or ps i d).at ≡ true → unknown_at c ≡ from i
  stops_constructed b = sym (step ∙ cond-true _ (unknown_at c) (on_fault (rule (take i ps)) (get_or ps i d) (from (i + 1))) b)

  onward : (o : Option ObjectFaultKind) (es : List Place) → stands_before c (get_or ps i d).at ≡ false → es ≡ take i ps → o ≡ rule es → on_fault o (get_or ps i d) (from (i + 1)) ≡ from i
  onward o es b p e =
      sym (step ∙ cond-false _ (unknown_at c) (on_fault (rule (take i ps)) (get_or ps i d) (from (i + 1))) b ∙ ap (λ x. on_fault x (get_or ps i d) (from (i + 1))) (sym (e ∙ ap rule p)))

  pub stops_fault : (w : ObjectFaultKind) (es : List Place) → stands_before c (get_or ps i d).at ≡ false → es ≡ take i ps → Some w ≡ rule es → Err (fault.Object w (get_or ps i d).at (get_or ps i d).tag) ≡ from i
  stops_fault w es b p e = onward (Some w) es b p e

  pub goes_on : (es : List Place) → stands_before c (get_or ps i d).at ≡ false → es ≡ take i ps → None ≡ rule es → from (i + 1) ≡ from i
  goes_on es b p e = onward None es b p e

pub walked_all : (k : TextKind) (m : Map) (text : List ℕ) (c : Option Place) (ps : List Place) (i : ℕ) → length ps ≤ i → unknown_at c ≡ walked k m text c (take i ps) (drop i ps)
walked_all k m text c ps i h = sym (at_drop_all (walked k m text c (take i ps)) ps i h)
