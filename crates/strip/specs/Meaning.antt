-- What a strip store means.
use Rattle.strip.specs.declared.strip.Strip.{Strip}
use Rattle.store.specs.Map.{Map, Kept}
use Rattle.strip.specs.Strip.{contents}
use Rattle.strip.specs.Kept.{sound_kept}

-- the map
abbrev pub held_by : Strip → Map
held_by s = contents s.count s.used s.area.now

pub strip_kept : (s : Strip) → Kept (held_by s) s.objects s.bytes
strip_kept s = sound_kept s.objects s.bytes s.count s.used s.area.now s.ok
