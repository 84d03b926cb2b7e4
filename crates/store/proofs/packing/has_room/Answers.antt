use Rattle.store.proofs.Rooms.{held_le_as}
use Rattle.store.proofs.packing.has_room.Goals as goal

pub leaves_room-requires : goal.leaves_room-requires
leaves_room-requires g c =
    held_le_as (g.S.ReadStore.held c.args.s.now) c.args.tag.value c.args.held c.of.result.total c.args.tag.ok c.requires c.of.ensures.holds.1
