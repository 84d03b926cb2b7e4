use Rattle.std.proofs.Common.{◌≡◌, length, take, vec_items}
use Rattle.std.proofs.lemmas.Result.{IfOk-weaker}
use Rattle.tlv.specs.Series.{found, meaning}
use Rattle.cardtext.proofs.Joining.{always, read_well, same_reading}
use Rattle.cardtext.proofs.Telling.{each_told}
use Rattle.cardtext.proofs.report.push_reading.Goals as goal

pub returns-in_ok-push_objects-in-Ok : goal.returns-in_ok-push_objects-in-Ok
returns-in_ok-push_objects-in-Ok c =
    let places = c.read_text.new.list in
    let text = c.args.text.now in
    let front = take c.in-Ok.n places in
    let meant : meaning text ≡ found front = same_reading _ _ c.in-Ok.ensures.read in
    record {
      items =
          IfOk-weaker c.push_takings.result _ _
          (λ x e. read_well text (vec_items c.args.out.now) (vec_items c.push_objects.new.out) front (length places) meant c.read_text.auto.list c.in_ok-push_objects-in-Ok.ensures e)
          c.push_takings.ensures;
      each = always c.push_takings.result (each_told text);
    }
