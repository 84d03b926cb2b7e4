-- What a directory store means.
use Rattle.std.specs.Prelude.{length}
use Rattle.directory.specs.declared.directory.Directory.{Directory}
use Rattle.store.specs.Map.{Map, Kept}
use Rattle.directory.specs.Directory.{filed_map}
use Rattle.directory.specs.Kept.{ordered_kept}

-- the map
abbrev pub held_by : Directory → Map
held_by d = filed_map d.count d.used d.slots.now d.values.now

pub directory_kept : (d : Directory) → Kept (held_by d) (length d.slots.now) (length d.values.now)
directory_kept d = ordered_kept d.count d.used d.slots.now d.values.now d.ok
