use Rattle.std.proofs.Common.{sym, subst}
use Rattle.std.specs.Prelude.{unwrap_or}
use Rattle.ras_logic.specs.declared.raw_db.RawDb.{RawDb}
use Rattle.ras_system.specs.declared.state.State.{State}
use Rattle.ras_system.specs.States.{MeetsAny}
use Rattle.ras_system.specs.Runs.{IsRun}
use Rattle.ras_violation.specs.declared.violation_fault.ViolationError.{ViolationError}
use Rattle.ras_violation.specs.Violations.{MeetsNone}
use Rattle.ras_violation.specs.ViolationFaults.{IsViolationFault, OnFault, OnEnd}
use Rattle.ras_violation.proofs.Lines.{written_run}
use Rattle.ras_violation.proofs.Refused.{handed, end_told}
use Rattle.ras_violation.proofs.replayed.replay_text.Goals as goal

pub returns-in_err-put_goal_met-clause-fault : goal.returns-in_err-put_goal_met-clause-fault
returns-in_err-put_goal_met-clause-fault c =
    let system = c.args.system.now in
    let run = c.args.run.now in
    let last = c.reached.result.now in
    let error = c.in_err-put_goal_met.field-0.0 in
    let leads : IsRun system c.args.db.now run.start run.choices last =
    subst (λ (s : State). IsRun system c.args.db.now run.start run.choices s) (sym c.reached.ensures)
    (subst (λ (d : RawDb). IsRun system d run.start run.choices (unwrap_or c.in_ok-last.last run.start)) c.in_ok-db.ensures.value
    (written_run system c.in_ok-db.db run.start run.choices (unwrap_or c.in_ok-last.last run.start) c.new-text.result.items c.put_states.new.out.items c.in_ok-last.ensures.states)) in
    handed (λ (e : ViolationError). OnFault e (IsViolationFault system c.args.db.now run)) c.from_residual-in_err-put_goal_met.result error c.from_residual-in_err-put_goal_met.ensures.1
    (end_told system c.args.db.now run (record { database = c.in_ok-db.ensures.database; initial = c.in_ok-db.ensures.initial }) last leads error
    (subst (λ (d : RawDb). OnEnd error (MeetsNone d last system.goals)) c.in_ok-db.ensures.value c.in_err-put_goal_met.ensures.end))

pub returns-clause-good : goal.returns-clause-good
returns-clause-good c =
    let system = c.args.system.now in
    let run = c.args.run.now in
    let last = c.reached.result.now in (
      last,
      record {
        database = c.in_ok-db.ensures.database;
        initial = c.in_ok-db.ensures.initial;
        run = subst (λ (s : State). IsRun system c.args.db.now run.start run.choices s) (sym c.reached.ensures)
            (subst (λ (d : RawDb). IsRun system d run.start run.choices (unwrap_or c.in_ok-last.last run.start)) c.in_ok-db.ensures.value
            (written_run system c.in_ok-db.db run.start run.choices (unwrap_or c.in_ok-last.last run.start) c.new-text.result.items c.put_states.new.out.items c.in_ok-last.ensures.states));
        goal = subst (λ (d : RawDb). MeetsAny d last system.goals) c.in_ok-db.ensures.value c.in_ok-put_goal_met.ensures.met;
      },
    )
