use Rattle.std.proofs.Common.{◌≡◌, ap, ◌∙◌}
use Rattle.masking.specs.Mask.{masked}
use Rattle.masking.proofs.Calls.{put_answer_masked, put_after_masked}
use Rattle.masking.proofs.MaskingWriteStore.put.Goals as goal

pub returns : goal.returns
returns g c =
    let pad = c.args.self.now.pad.bytes in
    let t = c.args.tag.value in
    let m = g.S.ReadStore.held c.args.self.now.lower in
    let v = c.args.value.now in
    let x = c.apply.new.text in
    let e : x ≡ masked pad t v = c.apply.ensures ∙ ap (masked pad t) c.copy_from_slice.ensures.after in
    record {
      answer = c.put.ensures.answer
          ∙ put_answer_masked pad (g.S.ReadStore.objects c.args.self.now.lower) (g.S.ReadStore.bytes c.args.self.now.lower) m t v x e;
      after = put_after_masked pad c.put.result m (g.S.ReadStore.held c.put.new.self) t v x e c.put.ensures.after;
      limits = c.put.ensures.limits;
    }
