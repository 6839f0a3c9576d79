-- What the models of the closure of facts mean.
use Rattle.std.proofs.Common.{get_or, subst}
use Rattle.std.proofs.lemmas.List.Elements.{Contains-get_or}
use Rattle.ras_logic.specs.declared.problem.Problem.{Problem}
use Rattle.ras_logic.specs.declared.raw_db.RawDb.{RawDb}
use Rattle.ras_logic.specs.declared.values.Values.{Values}
use Rattle.ras_logic.specs.Shapes.{ShapeParts}
use Rattle.ras_logic.specs.Databases.{IsDatabase}
use Rattle.ras_logic.specs.Truth.{AreValues, Satisfies}
use Rattle.ras_closure.specs.Closures.{ClosureParts}
use Rattle.ras_closure.specs.SmallModels.{IsModelOf}
use Rattle.ras_closure.specs.Closings.{IsClosureOf}

-- a model of the closure of facts satisfies them
pub record IsModelOfFacts (shape : ShapeParts) (facts : Problem) (d : RawDb) (v : Values) : Type 0 where
  pub database : IsDatabase shape.schema d
  pub satisfies : Satisfies shape d v facts

pub model-facts : (shape : ShapeParts) (facts : Problem) (c : ClosureParts) (d : RawDb) (v : Values) → IsClosureOf shape facts c → IsModelOf c d v → IsModelOfFacts shape facts d v
model-facts shape facts c d v of model = record {
  database = subst (λ (s : ShapeParts). IsDatabase s.schema d) of.shape_is model.database;
  satisfies = record {
    values = subst (λ (p : Problem). AreValues shape d p.rows p.params v) of.problem_is (subst (λ (s : ShapeParts). AreValues s d c.table.problem.rows c.table.problem.params v) of.shape_is model.values);
    literals = λ k l lt. model.facts (get_or facts.literals k l) ((of.asserted (get_or facts.literals k l)).1 (Contains-get_or facts.literals k l lt));
  };
}
