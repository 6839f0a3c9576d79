-- When an evidence of a violation is good, and which goal its last state meets first.
use Rattle.std.specs.Prelude.{◌≡◌, ℕ, List, All, take, slice_get, Some}
use Rattle.ras_logic.specs.declared.raw_db.RawDb.{RawDb}
use Rattle.ras_logic.specs.declared.problem.Problem.{Problem}
use Rattle.ras_system.specs.declared.state.State.{State}
use Rattle.ras_system.specs.Systems.{SystemParts}
use Rattle.ras_system.specs.States.{Meets}
use Rattle.ras_system.specs.Runs.{IsViolation}
use Rattle.ras_steps.specs.declared.run.Run.{Run}
use Rattle.ras_steps.specs.Choosing.{IsFirstChoice}

-- the run leads to a last state, and is a violation in the database
abbrev pub IsGoodViolation : SystemParts → RawDb → Run → Type 0
IsGoodViolation system d run = (last : State) × IsViolation system d run.start run.choices last

-- the state meets none of the formulas
abbrev pub MeetsNone : RawDb → State → List Problem → Type 0
MeetsNone d s formulas = All (λ p. ¬ Meets d s p) formulas

-- the state meets the goal of that number, first by these rows, and no goal before it
pub record IsFirstMet (d : RawDb) (s : State) (goals : List Problem) (number : ℕ) (rows : List ℕ) : Type 0 where
  pub goal : Problem
  pub known : slice_get goals number ≡ Some goal
  pub before : MeetsNone d s (take number goals)
  pub first : IsFirstChoice d s goal rows
