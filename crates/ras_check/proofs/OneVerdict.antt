-- There are no two verdicts on an evidence.
use Rattle.std.proofs.Common.{◌≡◌, List, refl, ap}
use Rattle.ras_logic.specs.declared.problem.Problem.{Problem}
use Rattle.ras_logic.specs.declared.raw_db.RawDb.{RawDb}
use Rattle.ras_logic.specs.declared.tree.Tree.{Tree}
use Rattle.ras_system.specs.Systems.{SystemParts}
use Rattle.ras_system.specs.Evidence.{IsGoodSafe}
use Rattle.ras_steps.specs.declared.run.Run.{Run}
use Rattle.ras_evidence.specs.declared.value.Entry.{Entry}
use Rattle.ras_evidence.specs.declared.value.Evidence.{Evidence}
use Rattle.ras_evidence.specs.declared.value.Evidence.TheVariants.{Safe, Unsafe, Unknown}
use Rattle.ras_violation.specs.declared.violation_fault.ViolationFault.{ViolationFault}
use Rattle.ras_violation.specs.Violations.{IsGoodViolation}
use Rattle.ras_violation.specs.ViolationFaults.{IsViolationFault}
use Rattle.ras_safety.specs.declared.safe_fault.SafeFault.{SafeFault}
use Rattle.ras_check.specs.declared.verdict.Invalid.{Invalid}
use Rattle.ras_check.specs.declared.verdict.Invalid.TheVariants as invalid
use Rattle.ras_check.specs.declared.verdict.Verdict.{Verdict}
use Rattle.ras_check.specs.declared.verdict.Verdict.TheVariants as verdict
use Rattle.ras_safety.specs.Faults.{IsSafeFault}
use Rattle.ras_spent.specs.declared.spent_fault.SpentFault.{SpentFault}
use Rattle.ras_spent.specs.Entries.{IsGoodSpent}
use Rattle.ras_spent.specs.EntryFaults.{IsSpentFault}
use Rattle.ras_check.specs.Judging.{IsGood, IsInvalid, AnswersCheck}

module _ (not_safe : (system : SystemParts) (formulas : List Problem) (trees : List Tree) (f : SafeFault) → IsSafeFault system formulas trees f → ¬ IsGoodSafe system formulas trees)
    (one_safe : (system : SystemParts) (formulas : List Problem) (trees : List Tree) (f g : SafeFault) → IsSafeFault system formulas trees f → IsSafeFault system formulas trees g → f ≡ g)
    (no_violation : (system : SystemParts) (d : RawDb) (run : Run) (f : ViolationFault) → IsViolationFault system d run f → ¬ IsGoodViolation system d run)
    (one_violation : (system : SystemParts) (d : RawDb) (run : Run) (f g : ViolationFault) → IsViolationFault system d run f → IsViolationFault system d run g → f ≡ g)
    (not_spent : (system : SystemParts) (entries : List Entry) (spill : Entry) (f : SpentFault) → IsSpentFault system entries spill f → ¬ IsGoodSpent system entries spill)
    (one_spent : (system : SystemParts) (entries : List Entry) (spill : Entry) (f g : SpentFault) → IsSpentFault system entries spill f → IsSpentFault system entries spill g → f ≡ g)
    (system : SystemParts) where
  good_or_invalid : (e : Evidence) (i : Invalid) → IsGood system e → IsInvalid system e i → ⊥
  good_or_invalid (Safe formulas trees) (invalid.Safe f) good bad = not_safe system formulas trees f bad good
  good_or_invalid (Safe formulas trees) (invalid.Violation f) good bad = bad
  good_or_invalid (Safe formulas trees) (invalid.Spent f) good bad = bad
  good_or_invalid (Unsafe d run) (invalid.Safe f) good bad = bad
  good_or_invalid (Unsafe d run) (invalid.Violation f) good bad = no_violation system d run f bad good
  good_or_invalid (Unsafe d run) (invalid.Spent f) good bad = bad
  good_or_invalid (Unknown entries spill) (invalid.Safe f) good bad = bad
  good_or_invalid (Unknown entries spill) (invalid.Violation f) good bad = bad
  good_or_invalid (Unknown entries spill) (invalid.Spent f) good bad = not_spent system entries spill f bad good.1

  one_invalid : (e : Evidence) (i j : Invalid) → IsInvalid system e i → IsInvalid system e j → i ≡ j
  one_invalid (Safe formulas trees) (invalid.Safe f) (invalid.Safe g) h k = ap invalid.Safe (one_safe system formulas trees f g h k)
  one_invalid (Safe formulas trees) (invalid.Safe f) (invalid.Violation g) h k = absurd k
  one_invalid (Safe formulas trees) (invalid.Safe f) (invalid.Spent g) h k = absurd k
  one_invalid (Safe formulas trees) (invalid.Violation f) j h k = absurd h
  one_invalid (Safe formulas trees) (invalid.Spent f) j h k = absurd h
  one_invalid (Unsafe d run) (invalid.Violation f) (invalid.Violation g) h k = ap invalid.Violation (one_violation system d run f g h k)
  one_invalid (Unsafe d run) (invalid.Violation f) (invalid.Safe g) h k = absurd k
  one_invalid (Unsafe d run) (invalid.Violation f) (invalid.Spent g) h k = absurd k
  one_invalid (Unsafe d run) (invalid.Safe f) j h k = absurd h
  one_invalid (Unsafe d run) (invalid.Spent f) j h k = absurd h
  one_invalid (Unknown entries spill) (invalid.Spent f) (invalid.Spent g) h k = ap invalid.Spent (one_spent system entries spill f g h k)
  one_invalid (Unknown entries spill) (invalid.Spent f) (invalid.Safe g) h k = absurd k
  one_invalid (Unknown entries spill) (invalid.Spent f) (invalid.Violation g) h k = absurd k
  one_invalid (Unknown entries spill) (invalid.Safe f) j h k = absurd h
  one_invalid (Unknown entries spill) (invalid.Violation f) j h k = absurd h

  pub one_verdict : (e : Evidence) (v w : Verdict) → AnswersCheck system e v → AnswersCheck system e w → v ≡ w
  one_verdict e verdict.Valid verdict.Valid h k = refl
  one_verdict e verdict.Valid (verdict.Invalid i) h k = absurd (good_or_invalid e i h k)
  one_verdict e (verdict.Invalid i) verdict.Valid h k = absurd (good_or_invalid e i k h)
  one_verdict e (verdict.Invalid i) (verdict.Invalid j) h k = ap verdict.Invalid (one_invalid e i j h k)
