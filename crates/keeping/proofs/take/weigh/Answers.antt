use Rattle.std.proofs.Common.{length, ◌∙◌}
use Rattle.keeping.proofs.Laws.{same_answer}
use Rattle.keeping.proofs.take.weigh.Goals as goal

pub returns : goal.returns
returns g c =
    record {
      answer = c.judge_and_sum.ensures.answer;
      alone = λ n own same. c.judge_and_sum.ensures.answer
          ∙ same_answer c.args.shares.now c.args.kind own (length c.args.list.now) (g.S.ReadStore.held c.args.store.now) n c.args.text.now same;
      weighed = c.judge_and_sum.ensures.weighed;
    }
