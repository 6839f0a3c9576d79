-- When an evidence is good, and what is wrong with it first.
use Rattle.std.specs.Prelude.{◌<◌, All, length, ⊤}
use Rattle.ras_logic.specs.Formulas.{IsCube}
use Rattle.ras_logic.specs.Trees.{IsWhole}
use Rattle.ras_system.specs.Systems.{SystemParts}
use Rattle.ras_system.specs.Evidence.{IsGoodSafe}
use Rattle.ras_evidence.specs.declared.value.Evidence.{Evidence}
use Rattle.ras_evidence.specs.declared.value.Evidence.TheVariants.{Safe, Unsafe, Unknown}
use Rattle.ras_violation.specs.Violations.{IsGoodViolation}
use Rattle.ras_violation.specs.ViolationFaults.{IsViolationFault}
use Rattle.ras_check.specs.declared.verdict.Invalid.{Invalid}
use Rattle.ras_check.specs.declared.verdict.Invalid.TheVariants as invalid
use Rattle.ras_check.specs.declared.verdict.Verdict.{Verdict}
use Rattle.ras_check.specs.declared.verdict.Verdict.TheVariants as verdict
use Rattle.ras_safety.specs.Faults.{IsSafeFault}
use Rattle.ras_spent.specs.Entries.{IsGoodSpent}
use Rattle.ras_spent.specs.EntryFaults.{IsSpentFault}

-- the nodes of each tree are a whole tree; the budget that was spent is at least one entry
abbrev pub IsComplete : Evidence → Type 0
IsComplete (Safe formulas trees) = All IsWhole trees
IsComplete (Unsafe db run) = ⊤
IsComplete (Unknown entries spill) = 0 < length entries

-- the formulas of an evidence of safety name no data parameter
abbrev pub HasCubes : Evidence → Type 0
HasCubes (Safe formulas trees) = All IsCube formulas
HasCubes (Unsafe db run) = ⊤
HasCubes (Unknown entries spill) = ⊤

-- an evidence of safety, a violation, or one of a spent budget, is good
abbrev pub IsGood : SystemParts → Evidence → Type 0
IsGood system (Safe formulas trees) = IsGoodSafe system formulas trees
IsGood system (Unsafe db run) = IsGoodViolation system db run
IsGood system (Unknown entries spill) = (0 < length entries) × IsGoodSpent system entries spill

-- what is wrong with an evidence first
abbrev pub IsInvalid : SystemParts → Evidence → Invalid → Type 0
IsInvalid system (Safe formulas trees) (invalid.Safe fault) = IsSafeFault system formulas trees fault
IsInvalid system (Unsafe db run) (invalid.Violation fault) = IsViolationFault system db run fault
IsInvalid system (Unknown entries spill) (invalid.Spent fault) = IsSpentFault system entries spill fault
IsInvalid system _ _ = ⊥

-- the verdict on an evidence
abbrev pub AnswersCheck : SystemParts → Evidence → Verdict → Type 0
AnswersCheck system evidence verdict.Valid = IsGood system evidence
AnswersCheck system evidence (verdict.Invalid fault) = IsInvalid system evidence fault

abbrev pub HasAnswer : SystemParts → Evidence → Type 0
HasAnswer system evidence = (verdict : Verdict) × AnswersCheck system evidence verdict

-- There is a verdict. Of an evidence of a spent budget it is said that there cannot be none, since which one it is depends on
-- the initial states of all databases.
abbrev pub HasVerdict : SystemParts → Evidence → Type 0
HasVerdict system (Safe formulas trees) = HasAnswer system (Safe formulas trees)
HasVerdict system (Unsafe db run) = HasAnswer system (Unsafe db run)
HasVerdict system (Unknown entries spill) = ¬ (¬ HasAnswer system (Unknown entries spill))
