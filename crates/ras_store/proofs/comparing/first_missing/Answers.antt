use Rattle.std.proofs.Common.{subst, arith}
use Rattle.std.specs.Prelude.{Contains}
use Rattle.ras_logic.specs.declared.problem.Problem.{Problem}
use Rattle.ras_logic.proofs.AllSteps.{all_step, all_done}
use Rattle.ras_store.proofs.comparing.first_missing.Goals as goal

pub loop-index-preserved : goal.loop-index-preserved
loop-index-preserved c = (
  (let lt = c.in-Some.ensures.within in omega (arith, lt)),
  all_step (Contains c.args.submissions.now) c.args.all.now c.loop-index.index c.index-all-index.result c.loop-index-test.true c.index-all-index.is c.loop-index.invariant.1
      (subst (λ (x : Problem). Contains c.args.submissions.now x) c.get.ensures c.in-Some.ensures.is),
)

pub returns-clause-none : goal.returns-clause-none
returns-clause-none c = all_done (Contains c.args.submissions.now) c.args.all.now c.loop-index.index c.loop-index-test.false c.loop-index.invariant.1
