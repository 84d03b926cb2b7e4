use Rattle.std.proofs.Common.{◌≡◌, true, sym, ◌∙◌}
use Rattle.std.proofs.lemmas.Bool.{cond-true}
use Rattle.store.specs.Map.{size}
use Rattle.judge.specs.Kinds.{writes}
use Rattle.keeping.specs.Keeping.{stored}
use Rattle.keeping.proofs.Sharing.{after}
use Rattle.keeping.proofs.total.part_after.Goals as goal

pub returns : goal.returns
returns g c =
    let s = c.args.store.now in
    let m = g.S.ReadStore.held s in
    let e = c.args.entry.now in
    let a = after c.args.kind m c.args.text.now c.args.places.now e.tag c.length_after.result c.length_held.result e c.requires.listed c.requires.fits
    ((g.S.ReadStore.kept s).values e.tag) c.length_held.ensures c.length_after.ensures in
    let yes : writes c.args.kind e.writer ≡ true = sym c.if-not-writes.ensures in
    record {
      value = a.value ∙ sym (cond-true (writes c.args.kind e.writer) (size (stored c.args.text.now c.args.places.now m e.tag)) 0 yes);
      small = a.small;
    }
