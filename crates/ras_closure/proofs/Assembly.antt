-- The parts of a model make a model.
use Rattle.std.proofs.Common.{◌≡◌, ℕ}
use Rattle.std.specs.Prelude.{None}
use Rattle.ras_logic.specs.declared.ids.SortId.{SortId}
use Rattle.ras_logic.specs.declared.raw_db.RawDb.{RawDb}
use Rattle.ras_logic.specs.declared.values.Values.{Values}
use Rattle.ras_logic.specs.declared.term.Term.{Term}
use Rattle.ras_logic.specs.Truth.{value}
use Rattle.ras_closure.specs.Numbered.{IsAt, IsTable}
use Rattle.ras_closure.specs.Closures.{ClosureParts, IsClosure, IsFactOf}
use Rattle.ras_closure.specs.SmallModels.{IsModelOf}
use Rattle.ras_closure.specs.Models.{IsModelDb}
use Rattle.ras_closure.specs.Values.{AreModelValues}
use Rattle.ras_closure.proofs.Models.{model-database, model-values, model-holds, model-apart, value-number}
use Rattle.ras_closure.proofs.Laws.{facts_known, consistent}
use Rattle.ras_closure.proofs.Models.{AreNumbers}

module _ (c : ClosureParts) (table : IsTable c.table) (closure : IsClosure c) (none : c.clash ≡ None) (number : ℕ → ℕ) (size : SortId → ℕ)
    (numbers : AreNumbers c.table.shape c.table.problem.rows c.table.problem.params c.table.terms c.classes number size) (d : RawDb) (v : Values)
    (db : IsModelDb c.table.shape.schema c.table.terms number size d) (values : AreModelValues c.table.shape c.table.problem.rows c.table.problem.params c.table.terms number v) where
  pub model-of : IsModelOf c d v
  model-of = record {
    database = model-database c.table.shape c.table.problem.rows c.table.problem.params table.shape.schema table.shape.vars table.shape.columns table.fits.params c.table.problem.literals
        table.fits.literals (IsFactOf c) closure.facts_fit (facts_known c table closure) c.table.terms c.classes table.terms closure.closed (consistent c table closure none) number size numbers d db;
    values = model-values c.table.shape c.table.problem.rows c.table.problem.params table.shape.schema table.shape.vars table.shape.columns table.fits.params c.table.problem.literals
        table.fits.literals (IsFactOf c) closure.facts_fit (facts_known c table closure) c.table.terms c.classes table.terms closure.closed (consistent c table closure none) number size numbers d db
        v values;
    facts = model-holds c.table.shape c.table.problem.rows c.table.problem.params table.shape.schema table.shape.vars table.shape.columns table.fits.params c.table.problem.literals
        table.fits.literals (IsFactOf c) closure.facts_fit (facts_known c table closure) c.table.terms c.classes table.terms closure.closed (consistent c table closure none) number size numbers d db
        v values;
    apart = model-apart c.table.shape c.table.problem.rows c.table.problem.params table.shape.schema table.shape.vars table.shape.columns table.fits.params c.table.problem.literals
        table.fits.literals (IsFactOf c) closure.facts_fit (facts_known c table closure) c.table.terms c.classes table.terms closure.closed (consistent c table closure none) number size numbers d db
        v values;
  }

  pub term-number : (i : ℕ) (s : Term) → IsAt c.table.terms i s → value d v s ≡ number i
  term-number = value-number c.table.shape c.table.problem.rows c.table.problem.params table.shape.schema table.shape.vars table.shape.columns table.fits.params c.table.problem.literals
      table.fits.literals (IsFactOf c) closure.facts_fit (facts_known c table closure) c.table.terms c.classes table.terms closure.closed (consistent c table closure none) number size numbers d db
      v values
