use Rattle.ras_refute.specs.Tables.{AddsUndefs}
use Rattle.ras_refute.proofs.table.place_undefs.Given as goal

abbrev pub invariant-loop-n : goal.invariant-loop-n
invariant-loop-n l = AddsUndefs l.n l.entries
