use Rattle.std.proofs.Common.{length, ◌∙◌, arith, rules}
use Rattle.readout.proofs.Written.{only_at, sum_sizes}
use Rattle.readout.proofs.Series.{series, short, fit, read_back}
use Rattle.readout.proofs.object.write_objects.Goals as goal

pub returns-then-out-n : goal.returns-then-out-n
returns-then-out-n g c =
    let m = g.S.ReadStore.held c.args.store.now in
    let size = c.sizes_of-n.ensures ∙ sum_sizes c.args.absent c.args.tags.now m in
    record {
      answer = short (length c.args.out.now) c.sizes_of-n.result (series c.args.absent c.args.tags.now m) size c.if-out-n.true;
      after = search rules;
      reads = search rules;
      only = only_at c.args.absent c.args.tags.now;
    }

pub put_objects-requires : goal.put_objects-requires
put_objects-requires g c = omega (arith, c.sizes_of-n.ensures ∙ sum_sizes c.args.absent c.args.tags.now (g.S.ReadStore.held c.args.store.now))

pub returns : goal.returns
returns g c =
    let m = g.S.ReadStore.held c.args.store.now in
    let size = c.sizes_of-n.ensures ∙ sum_sizes c.args.absent c.args.tags.now m in
    record {
      answer = fit (length c.args.out.now) c.sizes_of-n.result (series c.args.absent c.args.tags.now m) size c.if-out-n.false;
      after = c.put_objects.ensures;
      reads = read_back c.sizes_of-n.result c.args.absent c.args.tags.now m c.args.out.now c.put_objects.new.out size c.put_objects.ensures;
      only = only_at c.args.absent c.args.tags.now;
    }
