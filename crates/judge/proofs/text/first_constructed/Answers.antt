use Rattle.std.proofs.Common.{◌≡◌, ℕ, length, None, Ok, Err, Result, sym, refl, ap, ◌∙◌, arith}
use Rattle.std.specs.Result.{result_ok}
use Rattle.tlv.specs.Told.{next_told}
use Rattle.judge.proofs.Outermost.{at_fault, at_token, rest_less}
use Rattle.judge.proofs.text.first_constructed.Goals as goal
use Rattle.judge.proofs.text.first_constructed.Goals.{In_ok-token}

-- a token that was read is what stands next
read : (c : In_ok-token) → next_told (Ok (c.in_ok-token.token, c.in_ok-token.after)) ≡ next_told c.next_token.result
read c = let is : c.next_token.result ≡ Ok (c.in_ok-token.token, c.in_ok-token.after) = grind arith in ap next_told (sym is)

failed : {A F : Type 0} (r : Result A F) → result_ok r ≡ None → (e : F) × (r ≡ Err e)
failed (Ok x) e = let z : ◌≡◌ {A = ℕ} 0 1 = cc in absurd (omega arith)
failed (Err f) e = (f, refl)

pub returns-in_err-token : goal.returns-in_err-token
returns-in_err-token c =
    let f = failed c.next_token.result (sym c.ok.ensures.value ∙ c.in_err-token.was) in
    c.from_residual.ensures ∙ at_fault (length c.args.text.now) c.loop-token.rest.now _ _ (ap next_told (sym f.1) ∙ c.next_token.ensures) ∙ c.loop-token.invariant

pub returns-in-End : goal.returns-in-End
returns-in-End c = at_token (length c.args.text.now) c.loop-token.rest.now c.in_ok-token.after.now c.in_ok-token.token _ c.in-End.is (read (goal.at.returns-in-End c).In_ok-token ∙ c.next_token.ensures) ∙ c.loop-token.invariant

pub returns-in-Constructed : goal.returns-in-Constructed
returns-in-Constructed c =
    at_token (length c.args.text.now) c.loop-token.rest.now c.in_ok-token.after.now c.in_ok-token.token _ c.in-Constructed.is (read (goal.at.returns-in-Constructed c).In_ok-token ∙ c.next_token.ensures) ∙ c.loop-token.invariant

pub loop-token-smaller : goal.loop-token-smaller
loop-token-smaller c = rest_less (length c.args.text.now) c.loop-token.rest.now c.in_ok-token.after.now _ c.in_ok-token.token _ _ _ c.in-Primitive.is (read (goal.at.loop-token-smaller c).In_ok-token ∙ c.next_token.ensures)

pub loop-token-preserved : goal.loop-token-preserved
loop-token-preserved c =
    at_token (length c.args.text.now) c.loop-token.rest.now c.in_ok-token.after.now c.in_ok-token.token _ c.in-Primitive.is (read (goal.at.loop-token-preserved c).In_ok-token ∙ c.next_token.ensures) ∙ c.loop-token.invariant
