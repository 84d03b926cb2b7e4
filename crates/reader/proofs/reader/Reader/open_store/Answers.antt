use Rattle.std.proofs.Common.{length, rules}
use Rattle.reader.specs.Meanings.{meaning}
use Rattle.reader.proofs.reader.Reader.open_store.Goals as goal

pub returns-clause-stands : goal.returns-clause-stands
returns-clause-stands g c =
    c.law_of_opening.ensures.stands (meaning g.S.ReadStore c.args.self.now) (meaning g.S.ReadStore c.configure.new.self) c.configure.result c.args.shares c.args.text.now (length c.args.list.now) (search rules)
