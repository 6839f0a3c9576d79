use Rattle.ras_closure.specs.Closings.{HasFirst}
use Rattle.ras_closure.proofs.asserting.assert_all.Given as goal

abbrev pub invariant-loop-fact : goal.invariant-loop-fact
invariant-loop-fact l = HasFirst l.fn.closure.table.shape l.problem l.fact-index l.closure
