-- The worked judgements, computed.
use Rattle.std.proofs.Common.{refl}
use Rattle.dictionary.specs.Dictionary.{dictionary, entry_of}
use Rattle.tlv.specs.Series.{series_by, series}
use Rattle.judge.specs.Objects.{outermost_by, outermost}
use Rattle.judge.specs.Judge.{judged}
use Rattle.judge.specs.Worked.{Worked}

pub worked : Worked
unfolding judged series series_by outermost outermost_by entry_of dictionary
worked = (refl, (refl, (refl, (refl, (refl, (refl, (refl, (refl, (refl, (refl, (refl, (refl, (refl, (refl, (refl, (refl, (refl, (refl, (refl, (refl, (refl, (refl, tt))))))))))))))))))))))
