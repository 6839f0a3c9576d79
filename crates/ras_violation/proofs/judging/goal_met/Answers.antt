use Rattle.std.proofs.Common.{◌≡◌, ◌<◌, ◌≤◌, List, length, get_or, ◌∙◌, subst}
use Rattle.ras_logic.specs.declared.problem.Problem.{Problem}
use Rattle.ras_logic.proofs.AllSteps.{all_step, all_done}
use Rattle.ras_system.specs.States.{Meets}
use Rattle.ras_violation.proofs.judging.goal_met.Goals as goal

pub loop-number-preserved : goal.loop-number-preserved
loop-number-preserved c =
    let goals : List Problem = c.args.system.now.goals in
    let same : c.goals-goal-items.result.now ≡ goals = c.goals-goal-items.ensures in
    let lt : c.loop-number.number < length goals = subst (λ (ps : List Problem). c.loop-number.number < length ps) same c.loop-number-test.true in
    let read : c.goal-item.result ≡ get_or goals c.loop-number.number c.goal-item.result =
    subst (λ (ps : List Problem). c.goal-item.result ≡ get_or ps c.loop-number.number c.goal-item.result) same c.goal-item.is in
    record {
      room = c.meets.ensures.keeps_room ∙ c.loop-number.invariant.room;
      none = all_step (λ (p : Problem). ¬ Meets c.args.db.now c.args.state.now p) goals c.loop-number.number c.goal-item.result lt read c.loop-number.invariant.none
          (λ (met : Meets c.args.db.now c.args.state.now c.goal-item.result). let told = c.if-meets.ensures.met.1 met in cc);
    }

pub returns-clause-end : goal.returns-clause-end
returns-clause-end c =
    all_done (λ (p : Problem). ¬ Meets c.args.db.now c.args.state.now p) c.args.system.now.goals c.loop-number.number
    (subst (λ (ps : List Problem). length ps ≤ c.loop-number.number) c.goals-goal-items.ensures c.loop-number-test.false) c.loop-number.invariant.none
