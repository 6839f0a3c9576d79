-- The rules on declared names: which have to be different from which.
use Rattle.std.specs.Prelude.{◌≡◌, ℕ, ◌+◌, List, [], ◌++◌, map, take, slice_get, Some, All, Contains}
use Rattle.ras_syntax.specs.Grammar.{Text}
use Rattle.ras_names.specs.declared.names.RelNames.{RelNames}
use Rattle.ras_names.specs.declared.names.StepNames.{StepNames}
use Rattle.ras_names.specs.declared.names.GoalNames.{GoalNames}
use Rattle.ras_names.specs.declared.names.Names.{Names}
use Rattle.ras_names.specs.Lists.{AreDifferent}

abbrev pub relation_names : Names → List Text
relation_names names = map (λ (r : RelNames). r.name) names.relations

-- the shared names that stand above all steps
abbrev pub declared_names : Names → List Text
declared_names names = (((names.sorts ++ names.functions) ++ names.constants) ++ names.vars) ++ relation_names names

-- the shared names of these steps and of what stands above them
abbrev pub shared_names : Names → List StepNames → List Text
shared_names names steps = declared_names names ++ map (λ (s : StepNames). s.name) steps

-- Rows and data parameters differ from one another and from the shared names above; the row of an `each` differs from all
-- of these, and may be that of another `each`.
pub record AreNew (above own each : List Text) : Type 0 where
  pub own_names : AreDifferent (above ++ own)
  pub each_rows : All (λ (row : Text). ¬ Contains (above ++ own) row) each

-- the shared names above the inside of the k-th step, its own among them
abbrev pub above_step : Names → ℕ → List Text
above_step names k = shared_names names (take (k + 1) names.steps)

pub record AreNewNames (names : Names) : Type 0 where
  pub shared : AreDifferent (shared_names names names.steps)
  pub columns : All (λ (r : RelNames). AreDifferent r.columns) names.relations
  pub steps : (k : ℕ) (s : StepNames) → slice_get names.steps k ≡ Some s → AreNew (above_step names k) (s.rows ++ s.params) s.each
  pub goals : All (λ (g : GoalNames). AreNew (shared_names names names.steps) g.rows []) names.goals
