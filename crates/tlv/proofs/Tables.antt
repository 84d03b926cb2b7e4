-- The worked texts mean what the table says: each is computed.
use Rattle.std.proofs.Common.{refl}
use Rattle.tlv.specs.Series.{series, series_by}
use Rattle.tlv.specs.Worked.{Worked}

pub worked : Worked
unfolding series series_by
worked =
    ((refl, (refl, tt)), ((refl, (refl, tt)), (refl, (refl, (refl, (refl, ((refl, (refl, tt)), ((refl, (refl, (refl, tt))), ((refl, (refl, tt)), (refl, (refl, (refl, tt))))))))))))
