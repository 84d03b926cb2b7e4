use Rattle.std.proofs.Common.{◌≡◌, ℕ, ◌+◌, ◌<◌, Bool, true, false, if◌then◌else◌, Result, Ok, Err, length, sym, ap, ◌∙◌, subst, arith, rules}
use Rattle.std.proofs.lemmas.Result.{err_from_is_err_and, IfOk-from_err}
use Rattle.std.proofs.slice.Lists.{all_by_recursion_push}
use Rattle.keyed.specs.declared.list.NotAdded.{NotAdded}
use Rattle.keyed.specs.declared.list.NotAdded.TheVariants.{AlreadyThere, Full}
use Rattle.keyed.specs.Elements.{elements}
use Rattle.tlv.specs.Series.{place}
use Rattle.tlv.specs.Told.{meant}
use Rattle.tlv.specs.Rising.{Before, Ordered, first_place, last_place}
use Rattle.tlv.proofs.Steps.{Turn, inside_length, rest_shorter, inside_shorter, after_object, at_fault, at_end_lem}
use Rattle.tlv.proofs.Order.{before_later, key_free, placed}
use Rattle.tlv.proofs.text.reader.+read_object_read_series.Goals as goal
use Rattle.tlv.proofs.text.reader.+read_object_read_series.Goals.{read_series-In_default}

-- what the loop knows once it has read a token that is not the end
turn : (t : ℕ) (c : read_series-In_default t) → Turn c.args.end c.loop-token.rest.now c.in_ok-token.after.now c.in_ok-token.token
turn t c = record { apart = c.in_default.not-End; read = c.in_ok-token.ensures }

-- a key that is not there is not told to be there
not_there : (h f : Bool) → h ≡ false → ◌≡◌ {A = Result (Unit {0}) NotAdded} (Err AlreadyThere) (if h then Err AlreadyThere else if f then Ok tt else Err Full) → ⊥
not_there true f n e = let z : ◌≡◌ {A = ℕ} 0 1 = cc in omega arith
not_there false true n e = let z : ◌≡◌ {A = ℕ} 0 1 = cc in omega arith
not_there false false n e = let z : ◌≡◌ {A = ℕ} 0 1 = cc in omega arith

pub read_object-unreachable-requires : goal.read_object-unreachable-requires
read_object-unreachable-requires t c =
    let b = subst (λ k. Before (first_place (meant k)) (elements c.args.list.now)) c.in-Primitive-2.is c.requires.rising in
    not_there _ _ (key_free (place c.in-Primitive-2.tag c.in-Primitive-2.at c.in-Primitive-2.start (length c.in-Primitive-2.value.now)) (elements c.args.list.now) b) (ap Err (sym c.in-Err-AlreadyThere.field-0-is) ∙ c.in-Err-AlreadyThere.ensures.answer)

pub read_object-read_series-requires : goal.read_object-read_series-requires
read_object-read_series-requires t c =
    let b = subst (λ k. Before (first_place (meant k)) (elements c.args.list.now)) c.in-Constructed.is c.requires.rising in
    let o = subst (λ k. Ordered (meant k)) c.in-Constructed.is c.requires.ordered in
    let size = ap (λ k. inside_length (meant k)) c.in-Constructed.is in
    (omega arith, (omega arith, (omega arith, (omega arith, before_later c.in-Constructed.at _ _ (omega arith) b))))

pub read_object-returns-in-Ok : goal.read_object-returns-in-Ok
read_object-returns-in-Ok t c =
    let b = subst (λ k. Before (first_place (meant k)) (elements c.args.list.now)) c.in-Primitive-2.is c.requires.rising in
    let o = subst (λ k. Ordered (meant k)) c.in-Primitive-2.is c.requires.ordered in
    let past = c.in-Primitive-2.start + length c.in-Primitive-2.value.now in
    let said = c.in-Ok.ensures in
    record {
      read = search rules;
      rising =
          subst (λ k. Before (last_place (meant k)) (elements c.add.new.self)) (sym c.in-Primitive-2.is)
          (subst (Before past) (sym said.elements) (all_by_recursion_push (λ q. q.at < past) (elements c.args.list.now) _ (before_later c.in-Primitive-2.at past _ (omega arith) b) (omega arith)));
      room = search rules;
      named = search rules;
    }

pub read_series-returns-in_err-token : goal.read_series-returns-in_err-token
read_series-returns-in_err-token t c =
    let p = err_from_is_err_and c.from_residual.result c.from_residual.ensures.1 in
    record {
      read = rw (p.1, p.2) (at_fault _ _ _ _ _ _ c.in_err-token.ensures ∙ c.loop-token.invariant.4);
      rising = IfOk-from_err _ _ c.from_residual.ensures.0;
      room = c.loop-token.invariant.1;
      named = c.loop-token.invariant.3;
    }

pub read_series-returns-in-End : goal.read_series-returns-in-End
read_series-returns-in-End t c = record {
  read = at_end_lem _ _ _ _ _ _ c.in-End.is c.in_ok-token.ensures ∙ c.loop-token.invariant.4;
  rising = before_later _ _ _ (omega arith) c.loop-token.invariant.2;
  room = c.loop-token.invariant.1;
  named = c.loop-token.invariant.3;
}

pub read_series-read_object-requires : goal.read_series-read_object-requires
read_series-read_object-requires t c =
    let now = turn t (goal.at.read_series-read_object-requires t c).In_default in
    let inside = inside_shorter now (omega arith) in
    let at = placed now (omega arith) in
    (omega arith, (omega arith, (at.ordered, (omega arith, (omega arith, before_later _ _ _ at.first c.loop-token.invariant.2)))))

pub read_series-returns-in_err-read_object : goal.read_series-returns-in_err-read_object
read_series-returns-in_err-read_object t c =
    let p = err_from_is_err_and c.from_residual-in_err-read_object.result c.from_residual-in_err-read_object.ensures.1 in
    let said = c.in_err-read_object.ensures in
    record {
      read = rw (p.1, p.2) (after_object (turn t (goal.at.read_series-returns-in_err-read_object t c).In_default) _ _ _ said.read ∙ c.loop-token.invariant.4);
      rising = IfOk-from_err _ _ c.from_residual-in_err-read_object.ensures.0;
      room = said.room;
      named = said.named ∙ c.loop-token.invariant.3;
    }

pub read_series-loop-token-smaller : goal.read_series-loop-token-smaller
read_series-loop-token-smaller t c = rest_shorter (turn t (goal.at.read_series-loop-token-smaller t c).In_default)

pub read_series-loop-token-preserved : goal.read_series-loop-token-preserved
read_series-loop-token-preserved t c =
    let now = turn t (goal.at.read_series-loop-token-preserved t c).In_default in
    let said = c.in_ok-read_object.ensures in
    let at = placed now (omega arith) in (
      omega (arith, rest_shorter now),
      said.room,
      subst (λ p. Before p (elements c.read_object.new.list)) at.last said.rising,
      said.named ∙ c.loop-token.invariant.3,
      after_object now _ _ _ said.read ∙ c.loop-token.invariant.4,
    )
