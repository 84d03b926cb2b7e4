use Rattle.std.proofs.Common.{◌≡◌, [], length, take, drop, Ok, sym, ap, ◌∙◌, subst, arith, rules}
use Rattle.std.proofs.lemmas.List.{length-take-le}
use Rattle.run.specs.Calls.{configured}
use Rattle.reader.specs.Meanings.{meaning, told}
use Rattle.isolation.specs.Asked.{asks, latest}
use Rattle.isolation.specs.Beside.{Went, given}
use Rattle.isolation.proofs.Going.{nothing_asked}
use Rattle.isolation.proofs.beside.open_and_play.Goals as goal

pub returns : goal.returns
returns g c =
    let o = c.in_ok-open.ensures in
    let p = c.play_all.ensures in
    let config = configured c.args.shares c.args.text.now in
    let n = c.min-n.result in
    let after = c.play_all.new.replies in
    let long : length c.open.new.list ≡ length c.args.list.now = search rules in
    let there : length after ≡ length c.args.replies.now = search rules in
    let made : length (take n c.args.calls.now) ≡ n = length-take-le n c.args.calls.now (omega (arith, c.min-n.ensures)) in
    record {
      came = (
        sym (ap (λ d. d.reply) o.opens) ∙ ap (λ s. told (Ok s) []) o.taken,
        omega (arith, c.min-n.ensures, there),
        subst (λ w. Went config (latest (asks (length c.args.buffer.now) w) (take n c.args.calls.now) []) (given after n) (meaning g.S.ReadStore c.play_all.new.reader)) long
            (subst (λ k. Went config (latest (asks (length c.args.buffer.now) (length c.open.new.list)) (take n c.args.calls.now) []) (given after k) (meaning g.S.ReadStore c.play_all.new.reader)) made
            (p.went config (nothing_asked config (meaning g.S.ReadStore c.open.new.self) o.stands))),
      );
      rest = subst (λ k. drop k after ≡ drop k c.args.replies.now) made p.rest;
    }
