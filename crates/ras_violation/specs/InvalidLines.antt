-- The line that tells what is wrong with an evidence of a violation.
use Rattle.std.specs.Prelude.{ℕ, List, [], ◌++◌, codes}
use Rattle.ras_database.specs.declared.db_fault.DbFault.{DbFault}
use Rattle.ras_database.specs.declared.db_fault.DbFault.TheVariants as database
use Rattle.ras_steps.specs.declared.step_fault.StepFault.{StepFault}
use Rattle.ras_steps.specs.declared.step_fault.StepFault.TheVariants as step
use Rattle.ras_steps.specs.declared.replay_fault.ReplayFault.{ReplayFault}
use Rattle.ras_violation.specs.declared.violation_fault.ViolationFault.{ViolationFault}
use Rattle.ras_violation.specs.declared.violation_fault.ViolationFault.TheVariants as fault
use Rattle.ras_text.specs.Pieces.{word}

abbrev pub database_kind : DbFault → List ℕ
database_kind (database.WrongLength part place) = codes "WRONG_LENGTH"
database_kind (database.OutOfRange part place at) = codes "OUT_OF_RANGE"
database_kind (database.UndefImage function at) = codes "UNDEF_IMAGE"
database_kind (database.ConstantClash first second) = codes "CONSTANT_CLASH"

-- want of memory is no fault of an evidence, and has no word
abbrev pub step_kind : StepFault → List ℕ
step_kind step.NoTransition = codes "NO_TRANSITION"
step_kind step.WrongCount = codes "WRONG_COUNT"
step_kind (step.RowOutside row) = codes "ROW_OUTSIDE"
step_kind (step.RowRepeated first second) = codes "ROW_REPEATED"
step_kind (step.ValueOutside value) = codes "VALUE_OUTSIDE"
step_kind step.GuardFalse = codes "GUARD_FALSE"
step_kind (step.Memory e) = []

-- ` database KIND`
abbrev pub database_text : DbFault → List ℕ
database_text f = codes " database " ++ (database_kind f ++ codes "\n")

-- ` step J KIND`
abbrev pub step_text : ReplayFault → List ℕ
step_text f = codes " step" ++ (word f.at ++ (codes " " ++ (step_kind f.fault ++ codes "\n")))

-- what is wrong, and the end of the line
abbrev pub fault_text : ViolationFault → List ℕ
fault_text (fault.Database f) = database_text f
fault_text fault.StartNotFitting = codes " start NOT_FITTING\n"
fault_text fault.StartNotInitial = codes " start NOT_INITIAL\n"
fault_text (fault.Step f) = step_text f
fault_text fault.EndNotUnsafe = codes " end NOT_UNSAFE\n"

abbrev pub invalid_text : ViolationFault → List ℕ
invalid_text f = codes "INVALID" ++ fault_text f
