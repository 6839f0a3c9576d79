use Rattle.std.proofs.Common.{◌≡◌, length}
use Rattle.ras_closure.specs.Values.{AreRowsWith}
use Rattle.ras_closure.specs.Elements.{number}
use Rattle.ras_closure.proofs.values.rows.Given as goal

abbrev pub invariant-loop-k : goal.invariant-loop-k
invariant-loop-k l = record {
  long : length l.all ≡ l.k;
  rows : AreRowsWith l.table.shape l.table.problem.rows l.table.terms (number l.numbers) l.all;
}
