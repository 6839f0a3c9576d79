-- Facts that clash hold in no database.
use Rattle.std.proofs.Common.{List}
use Rattle.std.specs.Prelude.{All, Contains, IsTrue}
use Rattle.std.proofs.lemmas.List.Elements.{All-contains}
use Rattle.ras_logic.specs.declared.ids.SortId.{SortId}
use Rattle.ras_logic.specs.declared.ids.RelId.{RelId}
use Rattle.ras_logic.specs.declared.raw_db.RawDb.{RawDb}
use Rattle.ras_logic.specs.declared.values.Values.{Values}
use Rattle.ras_logic.specs.declared.literal.Literal.{Literal}
use Rattle.ras_logic.specs.Shapes.{ShapeParts}
use Rattle.ras_logic.specs.Schemas.{IsSchema}
use Rattle.ras_logic.specs.Databases.{IsDatabase}
use Rattle.ras_logic.specs.Formulas.{LiteralFits}
use Rattle.ras_logic.specs.Truth.{AreValues, AllHold, holds}
use Rattle.ras_logic.specs.Clashes.{FactsClash}
use Rattle.ras_logic.proofs.Soundness as general
pub use Rattle.ras_logic.proofs.Elements.{from_known}

-- what clashes does not hold
pub clash-none : (shape : ShapeParts) (d : RawDb) → IsDatabase shape.schema d → (rows : List RelId) (params : List SortId) (v : Values)
    → AreValues shape d rows params v → IsSchema shape.schema → (facts : List Literal) → All (LiteralFits shape rows params) facts
    → AllHold d v facts → FactsClash shape.schema facts → ⊥
clash-none shape d db rows params v values ok facts fit hold clash =
    general.clash-none shape rows params ok facts fit (Contains facts)
    (λ l inside. All-contains (LiteralFits shape rows params) facts l fit inside) d db v values
    (λ l inside. All-contains (λ (q : Literal). IsTrue (holds d v q)) facts l hold inside) clash
