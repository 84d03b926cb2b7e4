use Rattle.std.proofs.Common.{arith}
use Rattle.hexadecimal.proofs.Back.{back}
use Rattle.hexadecimal.proofs.write.push_bytes.Goals as goal

pub returns-clause-back : goal.returns-clause-back
returns-clause-back c = back c.args.bytes.now (λ i. omega (arith, c.type_inv.bytes i))
