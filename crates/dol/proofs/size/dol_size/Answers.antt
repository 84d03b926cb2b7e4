use Rattle.std.proofs.Common.{◌≡◌, ◌+◌, ◌<◌, ◌≤◌, length, Some, ap, ◌∙◌, sym, arith, false-eqb}
use Rattle.std.specs.Option.{option_map}
use Rattle.std.proofs.lemmas.Option.{MatchOption-at_some}
use Rattle.std.proofs.lemmas.Grind.{common_steps}
use Rattle.dol.specs.Dol.{entries}
use Rattle.dol.specs.Steps.{seen, front}
use Rattle.dol.proofs.Entries.{after, counted}
use Rattle.dol.proofs.Lawful.{planned, lawful}
use Rattle.dol.proofs.size.dol_size.Goals as goal

pub loop-rest-preserved : goal.loop-rest-preserved
loop-rest-preserved c =
    let some : 0 < length c.loop-rest.rest.now = omega (arith, false-eqb _ 0 c.loop-rest-test.ensures) in
    let is : c.first_entry.result ≡ Some c.in_ok-head.head = grind arith in
    let first : Some (seen c.in_ok-head.head) ≡ front c.loop-rest.rest.now = ap (option_map seen) (sym is) ∙ c.first_entry.ensures in
    let sum : c.with_entry.result ≡ Some c.in_ok-size.size = grind arith in
    let more : (c.in_ok-size.size ≡ c.loop-rest.size + c.in_ok-head.head.size) × (c.in_ok-size.size ≤ c.args.limit) =
    MatchOption-at_some (c.args.limit < c.loop-rest.size + c.in_ok-head.head.size) (λ n. (n ≡ c.loop-rest.size + c.in_ok-head.head.size) × (n ≤ c.args.limit)) c.in_ok-size.size sum c.with_entry.ensures in (
      ap (λ n. after n c.args.limit (entries c.in_ok-head.head.rest.now)) more.0
          ∙ counted c.loop-rest.size c.args.limit c.loop-rest.rest.now (seen c.in_ok-head.head) some first ∙ c.loop-rest.invariant.0,
      more.1,
    )

pub returns-in_err-head-clause-law : goal.returns-in_err-head-clause-law
returns-in_err-head-clause-law c = lawful c.args.dol.now

pub returns-in_err-head-clause-plan : goal.returns-in_err-head-clause-plan
returns-in_err-head-clause-plan c = planned c.args.limit c.args.dol.now c.from_residual.result (grind (arith, common_steps))

pub returns-in_err-size-clause-law : goal.returns-in_err-size-clause-law
returns-in_err-size-clause-law c = lawful c.args.dol.now

pub returns-in_err-size-clause-plan : goal.returns-in_err-size-clause-plan
returns-in_err-size-clause-plan c = planned c.args.limit c.args.dol.now c.from_residual-in_err-size.result (grind (arith, common_steps))

pub returns-clause-law : goal.returns-clause-law
returns-clause-law c = lawful c.args.dol.now
