-- When two records are one and the same.
use Rattle.std.specs.Prelude.{Bool, ◌==◌, ◌&&◌}
use Rattle.keyed.specs.declared.record.Record.{Record}

-- the same file and the same number
abbrev pub record_same : Record → Record → Bool
record_same x y = x.sfi == y.sfi && x.number == y.number
