-- The first thing that is wrong with an evidence of a violation.
use Rattle.std.specs.Prelude.{⊤}
use Rattle.ras_logic.specs.declared.raw_db.RawDb.{RawDb}
use Rattle.ras_logic.specs.Databases.{IsDatabase}
use Rattle.ras_system.specs.declared.state.State.{State}
use Rattle.ras_system.specs.Systems.{SystemParts}
use Rattle.ras_system.specs.States.{IsState, IsInitial, MeetsAny}
use Rattle.ras_system.specs.Runs.{IsRun}
use Rattle.ras_database.specs.DatabaseFaults.{IsDatabaseFault}
use Rattle.ras_steps.specs.declared.run.Run.{Run}
use Rattle.ras_steps.specs.declared.replay_fault.ReplayFault.{ReplayFault}
use Rattle.ras_steps.specs.ReplayFaults.{IsMemory, IsReplayFault}
use Rattle.ras_violation.specs.declared.violation_fault.ViolationFault.{ViolationFault}
use Rattle.ras_violation.specs.declared.violation_fault.ViolationFault.TheVariants as fault
use Rattle.ras_violation.specs.declared.violation_fault.ViolationError.{ViolationError}
use Rattle.ras_violation.specs.declared.violation_fault.ViolationError.TheVariants.{Fault, Memory}

-- the database is one, and the first state is an initial one of it
pub record Begins (system : SystemParts) (d : RawDb) (run : Run) : Type 0 where
  pub database : IsDatabase system.shape.schema d
  pub initial : IsInitial system d run.start

-- The database; then the first state, that it is one of the database and then an initial one; then the steps; then the last state.
abbrev pub IsViolationFault : SystemParts → RawDb → Run → ViolationFault → Type 0
IsViolationFault system d run (fault.Database f) = IsDatabaseFault system.shape.schema d f
IsViolationFault system d run fault.StartNotFitting = IsDatabase system.shape.schema d × (¬ IsState system.shape d run.start)
IsViolationFault system d run fault.StartNotInitial =
    IsDatabase system.shape.schema d × IsState system.shape d run.start × (¬ IsInitial system d run.start)
IsViolationFault system d run (fault.Step f) = Begins system d run × IsReplayFault system d run.start run.choices f × (¬ IsMemory f.fault)
IsViolationFault system d run fault.EndNotUnsafe =
    Begins system d run × ((last : State) × IsRun system d run.start run.choices last × (¬ MeetsAny d last system.goals))

-- where the error is a fault of the evidence
abbrev pub OnFault : ViolationError → (ViolationFault → Type 0) → Type 0
OnFault (Fault f) P = P f
OnFault (Memory e) P = ⊤

-- where the error is a step that is refused
abbrev pub OnRefusal : ViolationError → (ReplayFault → Type 0) → Type 0
OnRefusal (Fault (fault.Step f)) P = P f
OnRefusal (Fault (fault.Database f)) P = ⊥
OnRefusal (Fault fault.StartNotFitting) P = ⊥
OnRefusal (Fault fault.StartNotInitial) P = ⊥
OnRefusal (Fault fault.EndNotUnsafe) P = ⊥
OnRefusal (Memory e) P = ⊤

-- where the error is a last state that meets no goal
abbrev pub OnEnd : ViolationError → Type 0 → Type 0
OnEnd (Fault fault.EndNotUnsafe) P = P
OnEnd (Fault (fault.Step f)) P = ⊥
OnEnd (Fault (fault.Database f)) P = ⊥
OnEnd (Fault fault.StartNotFitting) P = ⊥
OnEnd (Fault fault.StartNotInitial) P = ⊥
OnEnd (Memory e) P = ⊤
