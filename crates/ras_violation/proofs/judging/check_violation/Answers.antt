use Rattle.std.proofs.Common.{subst}
use Rattle.ras_logic.specs.declared.raw_db.RawDb.{RawDb}
use Rattle.ras_system.specs.Runs.{IsRun}
use Rattle.ras_violation.specs.declared.violation_fault.ViolationError.{ViolationError}
use Rattle.ras_violation.specs.Violations.{MeetsNone}
use Rattle.ras_violation.specs.ViolationFaults.{Begins, IsViolationFault, OnFault, OnEnd}
use Rattle.ras_violation.proofs.Refused.{handed, end_told}
use Rattle.ras_violation.proofs.judging.check_violation.Goals as goal

pub returns-in_err-goal_met-clause-fault : goal.returns-in_err-goal_met-clause-fault
returns-in_err-goal_met-clause-fault c =
    let system = c.args.system.now in
    let run = c.args.run.now in
    let last = c.in_ok-last.last in
    let error = c.in_err-goal_met.field-0.0 in
    let begins : Begins system c.args.db.now run = record { database = c.in_ok-db.ensures.database; initial = c.in_ok-db.ensures.initial } in
    handed (λ (e : ViolationError). OnFault e (IsViolationFault system c.args.db.now run)) c.from_residual-in_err-goal_met.result error c.from_residual-in_err-goal_met.ensures.1
    (end_told system c.args.db.now run begins last
    (subst (λ (d : RawDb). IsRun system d run.start run.choices last) c.in_ok-db.ensures.value c.in_ok-last.ensures.last) error
    (subst (λ (d : RawDb). OnEnd error (MeetsNone d last system.goals)) c.in_ok-db.ensures.value c.in_err-goal_met.ensures.end))
