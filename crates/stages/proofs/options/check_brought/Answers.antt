use Rattle.std.proofs.Common.{ap, ◌∙◌}
use Rattle.store.specs.Map.{empty}
use Rattle.keeping.specs.Keeping.{stored}
use Rattle.commands.specs.Commands.{bytes}
use Rattle.afl.specs.Afl.{records_of}
use Rattle.run.specs.Run.{unless, missing, first_record, after_options}
use Rattle.stages.proofs.options.check_brought.Goals as goal

pub returns : goal.returns
unfolding after_options
returns c = λ held.
    let M = stored c.args.text.now c.args.places.now empty in
    ap (λ o. unless o held (first_record held (records_of (bytes (M 0x94))))) (c.none_missing.ensures ∙ ap missing c.first_not_brought.ensures)
