use Rattle.std.proofs.Common.{sym, ap, ◌∙◌, subst, arith}
use Rattle.store.specs.Map.{Map, count, total}
use Rattle.keeping.specs.Keeping.{stored}
use Rattle.keeping.specs.Steps.{Fresh}
use Rattle.keeping.proofs.Refills.{stored_removed, fresh_removed}
use Rattle.keeping.proofs.keep.store_places.Goals as goal

pub returns : goal.returns
returns g c =
    let text = c.args.text.now in
    let ps = c.args.places.now in
    let m = g.S.ReadStore.held c.args.store.now in
    let F : Map → Type 0 = λ n. Fresh text ps n in
    let same = ap (stored text ps) c.remove_places.ensures.after ∙ stored_removed text ps m in
    let lo = c.remove_places.ensures.limits.0 in
    let lb = c.remove_places.ensures.limits.1 in
    record {
      after = λ h. c.put_places.ensures.after (record {
        fresh = subst F (sym c.remove_places.ensures.after) (fresh_removed c.args.kind m text ps c.requires);
        room = record { few = omega (arith, ap count same, h.few); small = omega (arith, ap total same, h.small) };
      }) ∙ same;
      limits = (c.put_places.ensures.limits.0 ∙ lo, c.put_places.ensures.limits.1 ∙ lb);
    }
