use Rattle.std.proofs.Common.{◌≡◌, ◌+◌, ◌-◌, ◌<◌, take, drop, sym, ap, ◌∙◌, arith, rules}
use Rattle.std.proofs.lemmas.List.{drop-take}
use Rattle.reader.proofs.reader.answer.left_behind.Goals as goal

pub returns-then-at-len : goal.returns-then-at-len
returns-then-at-len c =
    let n = c.args.at + 1 in
    let more : n < c.args.len = search rules in
    let all : n + (c.args.len - n) ≡ c.args.len = omega arith in
    sym (drop-take n (c.args.len - n) c.args.records.now) ∙ ap (λ k. drop n (take k c.args.records.now)) all
