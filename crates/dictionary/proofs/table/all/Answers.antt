use Rattle.std.proofs.Common.{rules}
use Rattle.dictionary.proofs.Order.{ordered_by}
use Rattle.dictionary.proofs.table.all.Goals as goal

pub returns-clause-ordered : goal.returns-clause-ordered
returns-clause-ordered c = search (rules, ordered_by)
