use Rattle.std.proofs.Common.{length, ◌∙◌, rules}
use Rattle.dol.specs.Dol.{entries}
use Rattle.dol.specs.Steps.{seen}
use Rattle.dol.proofs.Fills.{onward_start, fits_first, filled_one, filled_all}
use Rattle.dol.proofs.Lawful.{written_is}
use Rattle.dol.proofs.fill.fill_entries.Goals as goal

pub overflow_add-end : goal.overflow_add-end
overflow_add-end g c =
    let fits = fits_first c.loop-head.at (length c.args.out.now) c.loop-head.rest.now (seen c.in-Some.head) c.in-Some.ensures c.loop-head.invariant.1 in
    search rules

pub slice_bounds-fill_entry-end : goal.slice_bounds-fill_entry-end
slice_bounds-fill_entry-end g c =
    let fits = fits_first c.loop-head.at (length c.args.out.now) c.loop-head.rest.now (seen c.in-Some.head) c.in-Some.ensures c.loop-head.invariant.1 in
    search rules

pub loop-head-preserved : goal.loop-head-preserved
loop-head-preserved g c =
    let next = filled_one (g.S.ReadStore.held c.args.store.now) c.loop-head.at (length c.args.out.now) c.from.result c.loop-head.out c.fill_entry.new.out c.loop-head.rest.now (seen c.in-Some.head) c.from.ensures c.in-Some.ensures c.loop-head.auto.out c.loop-head.invariant.1 c.fill_entry.auto.out c.fill_entry.ensures in
    (next.0 ∙ c.loop-head.invariant.0, next.1)

pub returns : goal.returns
returns g c =
    filled_all (g.S.ReadStore.held c.args.store.now) c.loop-head.at (length c.args.out.now) c.loop-head.out c.loop-head.rest.now c.in_default.ensures c.loop-head.invariant.1
    ∙ c.loop-head.invariant.0
    ∙ written_is (g.S.ReadStore.held c.args.store.now) c.args.dol.now c.args.out.now c.requires
