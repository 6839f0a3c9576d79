use Rattle.ras_refute.specs.Tables.{AddsConstants}
use Rattle.ras_refute.proofs.table.place_constants.Given as goal

abbrev pub invariant-loop-n : goal.invariant-loop-n
invariant-loop-n l = AddsConstants l.sorts l.n l.fn.entries l.entries
