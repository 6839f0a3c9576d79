-- The facts of a case fit, and do not clash where they have a model.
use Rattle.ras_logic.specs.declared.problem.Problem.{Problem}
use Rattle.ras_logic.specs.declared.raw_db.RawDb.{RawDb}
use Rattle.ras_logic.specs.declared.values.Values.{Values}
use Rattle.ras_logic.specs.Shapes.{ShapeParts, IsShape}
use Rattle.ras_logic.specs.Formulas.{Fits}
use Rattle.ras_logic.specs.Clashes.{FactsClash}
use Rattle.ras_logic.proofs.Clashes.{clash-none}
use Rattle.ras_known.proofs.FactModels.{IsModelOfFacts}
use Rattle.ras_sat.specs.declared.task.Task.{Task}
use Rattle.ras_sat.specs.Tasks.{IsTask}
use Rattle.ras_sat.specs.Verdicts.{IsCase}

-- facts with a model do not clash
pub satisfied-no_clash : (shape : ShapeParts) → IsShape shape → (facts : Problem) → Fits shape facts → (d : RawDb) (v : Values) → IsModelOfFacts shape facts d v → ¬ FactsClash shape.schema facts.literals
satisfied-no_clash shape ok facts fits d v model clash =
    clash-none shape d model.database facts.rows facts.params v model.satisfies.values ok.schema facts.literals fits.literals model.satisfies.literals clash

-- the facts of a case fit
pub case-fits : (t : Task) → IsTask t → (facts : Problem) → IsCase t facts → Fits t.shape.now facts
case-fits t task facts at = record {
  rows = rw at.rows task.fits.rows;
  params = rw at.params task.fits.params;
  literals = rw (at.rows, at.params) at.fit;
}
