use Rattle.std.proofs.Common.{◌≡◌, ◌+◌, length, sym, refl, ◌∙◌, arith, rules}
use Rattle.std.proofs.lemmas.Int.{ints}
use Rattle.std.proofs.lemmas.List.{length-append}
use Rattle.decision.specs.Amounts.{padded}
use Rattle.std.proofs.lemmas.Iterator.{YieldsList-from_zip}
use Rattle.std.proofs.lemmas.Iterator.Consumers.{YieldsList-turn, YieldsList-end}
use Rattle.decision.proofs.Padded.{padded_items}
use Rattle.decision.proofs.Order.{length_padded, level_none, level_more, level_above, level_below, level_all}
use Rattle.decision.proofs.Laws.{never_milder}
use Rattle.decision.proofs.verification.exceeds.Goals as goal

pub loop-a-init : goal.loop-a-init
loop-a-init c = (level_none _ _, omega (arith, ints), omega (arith, ints), search rules, search rules)

pub loop-a-preserved : goal.loop-a-preserved
loop-a-preserved c =
    let n = c.max-n.result in
    let xs = padded n c.args.amount.now in
    let ys = padded n c.args.floor.now in
    let same : length ys ≡ length xs = length_padded n c.args.floor.now (omega arith) ∙ sym (length_padded n c.args.amount.now (omega arith)) in
    let road = YieldsList-from_zip {s = c.into_iter-a-iterator.result} (padded_items n c.args.amount.now (cc) (cc) (cc) (cc) (cc)) (padded_items n c.args.floor.now (cc) (cc) (cc) (cc) (cc)) in
    let turn = YieldsList-turn road c.loop-a.yielded c.loop-a.a-iterator c.loop-a.yielded_by _ c.next.new.self (c.in-Some.a, c.in-Some.f) c.in-Some.is c.next.ensures.steps in
    (level_more xs ys _ _ _ _ _ _ same (length-append _ _) turn c.loop-a.invariant.0 (omega (arith, ints)), omega (arith, ints), omega (arith, ints), search rules, search rules)

pub returns-then-lead-gt1 : goal.returns-then-lead-gt1
returns-then-lead-gt1 c =
    let n = c.max-n.result in
    let xs = padded n c.args.amount.now in
    let ys = padded n c.args.floor.now in
    let same : length ys ≡ length xs = length_padded n c.args.floor.now (omega arith) ∙ sym (length_padded n c.args.amount.now (omega arith)) in
    let road = YieldsList-from_zip {s = c.into_iter-a-iterator.result} (padded_items n c.args.amount.now (cc) (cc) (cc) (cc) (cc)) (padded_items n c.args.floor.now (cc) (cc) (cc) (cc) (cc)) in
    let turn = YieldsList-turn road c.loop-a.yielded c.loop-a.a-iterator c.loop-a.yielded_by _ c.next.new.self (c.in-Some.a, c.in-Some.f) c.in-Some.is c.next.ensures.steps in
    record {
      value = level_above n _ _ _ _ same (λ k. omega (arith, c.type_inv.floor k)) (level_more xs ys _ (length c.loop-a.yielded + 1) _ _ _ _ same refl turn c.loop-a.invariant.0 refl) (omega (arith, ints));
      law = never_milder c.args.amount.now c.args.floor.now;
    }

pub returns-then-lead-ltminus1 : goal.returns-then-lead-ltminus1
returns-then-lead-ltminus1 c =
    let n = c.max-n.result in
    let xs = padded n c.args.amount.now in
    let ys = padded n c.args.floor.now in
    let same : length ys ≡ length xs = length_padded n c.args.floor.now (omega arith) ∙ sym (length_padded n c.args.amount.now (omega arith)) in
    let road = YieldsList-from_zip {s = c.into_iter-a-iterator.result} (padded_items n c.args.amount.now (cc) (cc) (cc) (cc) (cc)) (padded_items n c.args.floor.now (cc) (cc) (cc) (cc) (cc)) in
    let turn = YieldsList-turn road c.loop-a.yielded c.loop-a.a-iterator c.loop-a.yielded_by _ c.next.new.self (c.in-Some.a, c.in-Some.f) c.in-Some.is c.next.ensures.steps in
    record {
      value = level_below n _ _ _ _ same (λ k. omega (arith, c.type_inv.amount k)) (level_more xs ys _ (length c.loop-a.yielded + 1) _ _ _ _ same refl turn c.loop-a.invariant.0 refl) (omega (arith, ints));
      law = never_milder c.args.amount.now c.args.floor.now;
    }

pub returns : goal.returns
returns c =
    let n = c.max-n.result in
    let xs = padded n c.args.amount.now in
    let ys = padded n c.args.floor.now in
    let same : length ys ≡ length xs = length_padded n c.args.floor.now (omega arith) ∙ sym (length_padded n c.args.amount.now (omega arith)) in
    let road = YieldsList-from_zip {s = c.into_iter-a-iterator.result} (padded_items n c.args.amount.now (cc) (cc) (cc) (cc) (cc)) (padded_items n c.args.floor.now (cc) (cc) (cc) (cc) (cc)) in
    let end = YieldsList-end road c.loop-a.yielded c.loop-a.a-iterator c.loop-a.yielded_by _ c.next.new.self c.in-None.is c.next.ensures.steps in
    record {
      value = level_all n _ _ _ _ same end.1 c.loop-a.invariant.0;
      law = never_milder c.args.amount.now c.args.floor.now;
    }
