use Rattle.dol.proofs.Parts.{right_done}
use Rattle.dol.proofs.fit.fit_right.Goals as goal

pub returns : goal.returns
returns c =
    right_done c.min-n.result c.args.out.now c.args.value.now _ _ c.min-n.ensures c.pad_with.ensures c.copy_from_slice.ensures.after
