-- The worked runs, computed. Assumes nothing.
use Rattle.std.proofs.Common.{refl}
use Rattle.tlv.specs.Series.{series_by, series}
use Rattle.dictionary.specs.Dictionary.{dictionary, entry_of}
use Rattle.judge.specs.Objects.{outermost_by, outermost}
use Rattle.judge.specs.Judge.{judged}
use Rattle.keeping.specs.Shares.{writer_total}
use Rattle.dol.specs.Dol.{dol_data}
use Rattle.afl.specs.Afl.{records_of}
use Rattle.commands.specs.Commands.{get_options, generate_ac, options_command, generate_command}
use Rattle.run.specs.Run.{one_object, card_text, after_fci, begins, after_options, after_record, after_cryptogram, answered}
use Rattle.runs.specs.Worked.{Worked}

pub worked : Worked
unfolding series_by series dictionary entry_of outermost_by outermost judged writer_total dol_data records_of get_options generate_ac options_command generate_command one_object card_text after_fci begins after_options after_record after_cryptogram answered
worked = (refl, (refl, (refl, (refl, (refl, (refl, (refl, (refl, (refl, (refl, (refl, (refl, (refl, (refl, (refl, (refl, (refl, (refl, (refl, (refl, (refl, (refl, (refl, (refl, (refl, (refl, (refl, (refl, (refl, (refl, (refl, (refl, (refl, (refl, (refl, (refl, (refl, (refl, (refl, (refl, (refl, (refl, (refl, (refl, (refl, (refl, (refl, (refl, (refl, (refl, (refl, (refl, (refl, (refl, (refl, (refl, (refl, (refl, (refl, (refl, (refl, (refl, (refl, (refl, (refl, (refl, (refl, (refl, (refl, (refl, (refl, (refl, (refl, (refl, (refl, (refl, (refl, (refl, (refl, (refl, (refl, (refl, tt))))))))))))))))))))))))))))))))))))))))))))))))))))))))))))))))))))))))))))))))))
