use Rattle.std.proofs.Common.{refl}
use Rattle.ras_violation.specs.declared.violation_fault.ViolationError.TheVariants.{Fault}
use Rattle.ras_violation.specs.Violations.{MeetsNone}
use Rattle.ras_violation.specs.ViolationFaults.{OnEnd}
use Rattle.ras_spent.proofs.MetEntries.{told_no_goal}
use Rattle.ras_spent.proofs.judging.meets_goal.Goals.{in-Ok, in-Err-Fault, in-Err-Memory}
use Rattle.ras_spent.proofs.judging.meets_goal.Goals as goal

pub returns : goal.returns
returns c =
    elim c.match-goal_met.branch [
      | in-Ok w ↦ rw w.result-is ((λ is. w.in-Ok.ensures.goal), (λ met. refl))
      | in-Err-Fault w ↦
          let d = c.args.db.now in
          let s = c.args.state.now in
          let goals = c.args.system.now.goals in
          let told : OnEnd (Fault w.in-Err-Fault.field-0-0) (MeetsNone d s goals) = rw w.in-Err-Fault.field-0-is at w.in-Err-Fault.ensures.end in
          rw w.result-is ((λ is. absurd (cc)), (λ met. absurd (told_no_goal d s goals w.in-Err-Fault.field-0-0 told met)))
      | in-Err-Memory w ↦ rw w.result-is tt
    ]
