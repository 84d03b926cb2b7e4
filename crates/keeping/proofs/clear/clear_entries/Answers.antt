use Rattle.std.proofs.Common.{sym, ap, ◌∙◌}
use Rattle.std.proofs.lemmas.List.{at_drop_all}
use Rattle.keeping.specs.Steps.{cleared_all}
use Rattle.keeping.proofs.Clearings.{all_cleared}
use Rattle.keeping.proofs.Rooms.{roomy_cleared}
use Rattle.keeping.proofs.clear.clear_entries.Goals as goal

pub returns : goal.returns
returns g c =
    let inv = c.loop-entry.invariant in
    let es = c.args.entries.now in
    let m = g.S.ReadStore.held c.args.store.now in
    let after = sym (at_drop_all (λ xs. cleared_all xs (g.S.ReadStore.held c.loop-entry.store)) es c.loop-entry.entry-index c.loop-entry-test.false) ∙ inv.0
    ∙ ap (λ xs. cleared_all xs m) c.requires ∙ all_cleared m in
    record {
      after = after;
      roomy = λ s. roomy_cleared m (g.S.ReadStore.held c.loop-entry.store) after s _ _ _ _ inv.1 inv.2;
      limits = (inv.1, inv.2);
    }
