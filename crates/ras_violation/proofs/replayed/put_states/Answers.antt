use Rattle.std.proofs.Common.{◌≡◌, ◌<◌, List, length, take, get_or, sym, subst}
use Rattle.std.specs.Prelude.{unwrap_or}
use Rattle.ras_system.specs.declared.state.State.{State}
use Rattle.ras_system.specs.declared.choice.Choice.{Choice}
use Rattle.ras_system.specs.Steps.{IsStep}
use Rattle.ras_system.specs.Runs.{IsRun}
use Rattle.ras_violation.specs.declared.violation_fault.ViolationError.{ViolationError}
use Rattle.ras_violation.specs.ViolationFaults.{IsViolationFault, OnFault}
use Rattle.ras_violation.proofs.Lines.{written_first, written_run, written_more}
use Rattle.ras_violation.proofs.Refused.{handed, step_told}
use Rattle.ras_violation.proofs.replayed.put_states.Goals as goal

pub loop-at-init : goal.loop-at-init
loop-at-init c = written_first c.args.system.now c.args.db.now c.args.run.now.start c.args.out.now.items c.put_state.new.out.items c.in_ok-put_state.ensures

pub returns-in_err-next-clause-fault : goal.returns-in_err-next-clause-fault
returns-in_err-next-clause-fault c =
    let system = c.args.system.now in
    let d = c.args.db.now in
    let run = c.args.run.now in
    let i = c.loop-at.at in
    let choice = c.index-choices-at.result in
    let mid = c.reached-before.result.now in
    let same : c.as_slice-choices.result.now ≡ run.choices = c.as_slice-choices.ensures.items in
    let lt : i < length run.choices = subst (λ (cs : List Choice). i < length cs) same c.loop-at-test.true in
    let here : choice ≡ get_or run.choices i choice = subst (λ (cs : List Choice). choice ≡ get_or cs i choice) same c.index-choices-at.is in
    let leads : IsRun system d run.start (take i run.choices) mid =
    subst (λ (s : State). IsRun system d run.start (take i run.choices) s) (sym c.reached-before.ensures)
    (subst (λ (cs : List Choice). IsRun system d run.start (take i cs) (unwrap_or c.loop-at.last run.start)) same
    (written_run system d run.start (take i c.as_slice-choices.result.now) (unwrap_or c.loop-at.last run.start) c.args.out.now.items c.loop-at.out.items c.loop-at.invariant)) in
    handed (λ (e : ViolationError). OnFault e (IsViolationFault system d run)) c.from_residual-in_err-next.result c.in_err-next.field-0.0 c.from_residual-in_err-next.ensures.1
    (step_told system d run (record { database = c.requires.database; initial = c.requires.initial }) i choice mid lt here leads c.in_err-next.field-0.0 c.in_err-next.ensures.fault)

pub loop-at-preserved : goal.loop-at-preserved
loop-at-preserved c =
    written_more c.args.system.now c.args.db.now c.args.run.now.start c.as_slice-choices.result.now c.loop-at.at c.index-choices-at.result (unwrap_or c.loop-at.last c.args.run.now.start)
    c.in_ok-next.next c.args.out.now.items c.loop-at.out.items c.put_state-in-loop-at.new.out.items c.loop-at-test.true c.index-choices-at.is c.loop-at.invariant
    (subst (λ (s : State). IsStep c.args.system.now c.args.db.now s c.index-choices-at.result c.in_ok-next.next) c.reached-before.ensures c.in_ok-next.ensures.step)
    c.in_ok-put_state-2.ensures
