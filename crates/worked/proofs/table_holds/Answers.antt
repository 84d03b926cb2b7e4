use Rattle.std.proofs.Common.{refl}
use Rattle.dictionary.specs.Dictionary.{dictionary, entry_of}
use Rattle.tlv.proofs.Tables.{worked}
use Rattle.afl.specs.Afl.{records_of}
use Rattle.dol.specs.Dol.{dol_data}
use Rattle.commands.specs.Commands.{get_options, generate_ac, options_command, generate_command}
use Rattle.worked.proofs.table_holds.Goals as goal

pub returns : goal.returns
unfolding dictionary entry_of records_of dol_data get_options generate_ac options_command generate_command
returns c = (worked, (refl, (refl, (refl, (refl, (refl, (refl, (refl, (refl, (refl, (refl, (refl, (refl, (refl, (refl, (refl, (refl, (refl, (refl, (refl, (refl, (refl, (refl, (refl, (refl, (refl, tt))))))))))))))))))))))))))
