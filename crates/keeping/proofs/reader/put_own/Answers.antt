use Rattle.std.proofs.Common.{◌≡◌, ap, ◌∙◌}
use Rattle.store.specs.Answer.{put_answer, put_after}
use Rattle.keeping.proofs.Owns.{own_after, own_roomy}
use Rattle.keeping.proofs.reader.put_own.Goals as goal

pub returns : goal.returns
returns g c =
    let s = c.args.store.now in
    let o = g.S.ReadStore.objects s in
    let b = g.S.ReadStore.bytes s in
    let m = g.S.ReadStore.held s in
    let n = g.S.ReadStore.held c.put.new.self in
    let t = c.args.tag in
    let v = c.args.value.now in
    let put : n ≡ put_after (put_answer o b m t v) m t v =
    c.put.ensures.after ∙ ap (λ r. put_after r m c.in-Some.tag.value v) c.put.ensures.answer
    ∙ ap (λ u. put_after (put_answer o b m u v) m u v) c.in-Some.ensures in
    record {
      put = put;
      after = λ s r. own_after s o b m n t v c.requires.tag c.requires.short put r;
      roomy = λ s r. own_roomy s o b _ _ m n t v c.requires.tag c.requires.short put c.put.ensures.limits.0 c.put.ensures.limits.1 r;
      limits = (c.put.ensures.limits.0, c.put.ensures.limits.1);
    }
