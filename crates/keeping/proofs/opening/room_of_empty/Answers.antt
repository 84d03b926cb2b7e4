use Rattle.keeping.proofs.Rooms.{roomy_empty, none_held}
use Rattle.keeping.proofs.opening.room_of_empty.Goals as goal

pub returns : goal.returns
returns g c =
    let s = c.args.store.now in
    let m = g.S.ReadStore.held s in
    λ none objects bytes. roomy_empty m (none_held m (g.S.ReadStore.objects s) (g.S.ReadStore.bytes s) (g.S.ReadStore.kept s) none) c.args.shares.now (g.S.ReadStore.objects s) (g.S.ReadStore.bytes s) objects bytes
