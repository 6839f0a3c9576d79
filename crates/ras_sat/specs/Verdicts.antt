-- What is so of the facts of a case.
use Rattle.std.specs.Prelude.{◌≡◌, ℕ, ◌<◌, List, length, All, Contains}
use Rattle.ras_logic.specs.declared.literal.Literal.{Literal}
use Rattle.ras_logic.specs.declared.problem.Problem.{Problem}
use Rattle.ras_logic.specs.Formulas.{LiteralFits}
use Rattle.ras_logic.specs.Clashes.{FactsClash}
use Rattle.ras_sat.specs.declared.task.Task.{Task}
use Rattle.ras_sat.specs.declared.verdict.Verdict.{Verdict}
use Rattle.ras_sat.specs.declared.verdict.Verdict.TheVariants as verdict
use Rattle.ras_sat.specs.Tasks.{schema_of, opposites_at}
use Rattle.ras_sat.specs.Answers.{IsEscape}

-- facts that fit, over the premise's rows and data parameters, the premise's literals among them
pub record IsCase (t : Task) (facts : Problem) : Type 0 where
  pub rows : facts.rows ≡ t.premise.now.rows
  pub params : facts.params ≡ t.premise.now.params
  pub fit : All (LiteralFits t.shape.now t.premise.now.rows t.premise.now.params) facts.literals
  pub premise : (l : Literal) → Contains t.premise.now.literals l → Contains facts.literals l

-- no opposite of the instance is among the facts
pub record IsUnsplit (t : Task) (facts : List Literal) (instance : ℕ) : Type 0 where
  pub within : instance < length t.instances.now
  pub fresh : (l : Literal) → Contains (opposites_at t instance) l → Contains facts l → ⊥

abbrev pub IsVerdict : Task → List Literal → Verdict → Type 0
IsVerdict t facts verdict.Clash = FactsClash (schema_of t) facts
IsVerdict t facts (verdict.Escape m) = (¬ FactsClash (schema_of t) facts) × IsEscape t.shape.now t.premise.now t.formulas.now t.instances.now m.db m.values
IsVerdict t facts (verdict.Open instance) = (¬ FactsClash (schema_of t) facts) × IsUnsplit t facts instance
