use Rattle.std.proofs.Common.{sym, ◌∙◌}
use Rattle.masking.proofs.Calls.{lengths_masked}
use Rattle.masking.proofs.MaskingReadStore.length_of.Goals as goal

pub returns : goal.returns
returns g c =
    c.length_of.ensures
    ∙ sym (lengths_masked c.args.self.now.pad.bytes c.args.tag.value (g.S.ReadStore.held c.args.self.now.lower c.args.tag.value))
