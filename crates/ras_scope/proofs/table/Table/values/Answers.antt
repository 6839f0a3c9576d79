use Rattle.std.proofs.Common.{length, ap, arith}
use Rattle.ras_scope.proofs.table.Table.values.Goals as goal

pub returns-clause-few : goal.returns-clause-few
returns-clause-few g c = let n = ap length c.as_slice.ensures.value in omega (arith, n, c.args.self.now.as_long, c.count-few.ensures, c.count-few.type_inv)
