use Rattle.std.proofs.Common.{length, refl, ap, arith}
use Rattle.std.proofs.lemmas.List.{at_drop_all}
use Rattle.dictionary.proofs.Order.{entry_at}
use Rattle.keeping.specs.Keeping.{stored}
use Rattle.keeping.specs.Shares.{parts_of, writer_total}
use Rattle.keeping.proofs.total.total_after.Goals as goal

pub part_after-total-requires : goal.part_after-total-requires
part_after-total-requires g c =
    record {
      fits = c.requires;
      listed = simp c.all-table.ensures.value (entry_at c.loop-entry.entry-index _ _ (omega (arith, c.all-table.ensures.len, ap length c.all-table.ensures.value)) refl);
    }

pub returns : goal.returns
unfolding writer_total
returns g c =
    let inv = c.loop-entry.invariant in
    let es = c.all-table.result.now in
    let M = stored c.args.text.now c.args.places.now (g.S.ReadStore.held c.args.store.now) in
    let end = at_drop_all (λ xs. parts_of c.args.kind xs M) es c.loop-entry.entry-index c.loop-entry-test.false in
    let same = ap (λ xs. parts_of c.args.kind xs M) c.all-table.ensures.value in
    omega (arith, inv.0)
