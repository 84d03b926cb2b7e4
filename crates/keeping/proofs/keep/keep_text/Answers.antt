use Rattle.keeping.proofs.Kept.{kept}
use Rattle.keeping.proofs.Laws.{card_kept}
use Rattle.keeping.proofs.keep.keep_text.Goals as goal

pub returns : goal.returns
returns g c =
    let s = c.args.store.now in
    let k = kept c.args.shares.now (g.S.ReadStore.objects s) (g.S.ReadStore.bytes s) (g.S.ReadStore.objects c.store_places.new.store) (g.S.ReadStore.bytes c.store_places.new.store)
    c.args.kind (g.S.ReadStore.held s) (g.S.ReadStore.held c.store_places.new.store) c.args.text.now c.args.places.now c.requires
    c.store_places.ensures.after c.store_places.ensures.limits.0 c.store_places.ensures.limits.1 in
    record {
      after = λ r. (k r).map;
      card = λ is r. card_kept c.args.shares.now c.args.kind (g.S.ReadStore.held s) (g.S.ReadStore.held c.store_places.new.store) c.args.text.now c.args.places.now c.requires (k r).map is;
      roomy = λ r. (k r).roomy;
      replaced = λ r. (k r).replaced;
      limits = (c.store_places.ensures.limits.0, c.store_places.ensures.limits.1);
    }
