-- Short forms of terms, literals and the parts of a system, so that a vector reads like the text of its system.
use Rattle.std.specs.Prelude.{ℕ, true, false, List, []}
use Rattle.ras_logic.specs.declared.ids.SortId.{SortId}
use Rattle.ras_logic.specs.declared.ids.FunId.{FunId}
use Rattle.ras_logic.specs.declared.ids.ConstId.{ConstId}
use Rattle.ras_logic.specs.declared.ids.RelId.{RelId}
use Rattle.ras_logic.specs.declared.function.FunDecl.{FunDecl}
use Rattle.ras_logic.specs.declared.term.Base.TheVariants.{Var, Cell, Param}
use Rattle.ras_logic.specs.declared.term.Term.{Term}
use Rattle.ras_logic.specs.declared.literal.Literal.{Literal}
use Rattle.ras_logic.specs.declared.literal.Literal.TheVariants.{Equal}
use Rattle.ras_logic.specs.declared.problem.Problem.{Problem}
use Rattle.ras_logic.specs.declared.raw_db.RawDb.{RawDb}
use Rattle.ras_logic.specs.declared.tree.Tree.{Tree}
use Rattle.ras_logic.specs.declared.tree.Node.{Node}
use Rattle.ras_logic.specs.Schemas.{SchemaParts}
use Rattle.ras_logic.specs.Shapes.{ShapeParts}
use Rattle.ras_logic.specs.Terms.{base_term}
use Rattle.ras_system.specs.declared.update.Target.TheVariants as target
use Rattle.ras_system.specs.declared.update.Update.{Update}
use Rattle.ras_system.specs.declared.bulk.Assign.{Assign}
use Rattle.ras_system.specs.declared.bulk.Bulk.{Bulk}
use Rattle.ras_system.specs.declared.state.State.{State}
use Rattle.ras_system.specs.declared.choice.Choice.{Choice}

abbrev pub sort : ℕ → SortId
sort n = record { n = n }

abbrev pub function : ℕ → FunId
function n = record { n = n }

abbrev pub constant : ℕ → ConstId
constant n = record { n = n }

abbrev pub relation : ℕ → RelId
relation n = record { n = n }

abbrev pub total : ℕ → ℕ → FunDecl
total source target = record { source = sort source; target = sort target; total = true }

abbrev pub nullable : ℕ → ℕ → FunDecl
nullable source target = record { source = sort source; target = sort target; total = false }

abbrev pub schema_of : ℕ → List FunDecl → List SortId → SchemaParts
schema_of sorts functions constants = record { sorts = sorts; functions = functions; constants = constants }

-- variables and relations over three sorts
abbrev pub shape_of : List SortId → List (List SortId) → ShapeParts
shape_of vars relations = record { schema = schema_of 3 [] []; vars = vars; relations = relations }

-- an artifact variable, a cell of a named row, a data parameter
abbrev pub var : ℕ → Term
var n = base_term (Var (record { n = n }))

abbrev pub cell : ℕ → ℕ → Term
cell row column = base_term (Cell row column)

abbrev pub param : ℕ → Term
param n = base_term (Param n)

abbrev pub same : Term → Term → Literal
same s t = Equal s t true

abbrev pub apart : Term → Term → Literal
apart s t = Equal s t false

abbrev pub cube : List RelId → List Literal → Problem
cube rows literals = record { rows = rows; params = []; literals = literals }

abbrev pub problem : List RelId → List SortId → List Literal → Problem
problem rows params literals = record { rows = rows; params = params; literals = literals }

abbrev pub set_var : ℕ → Term → Update
set_var n t = record { target = target.Var (record { n = n }); term = t }

abbrev pub set_cell : ℕ → ℕ → Term → Update
set_cell row column t = record { target = target.Cell row column; term = t }

-- a bulk case, and what it assigns to a column
abbrev pub case : RelId → List Literal → List Assign → Bulk
case r condition assigns = record { relation = r; condition = condition; assigns = assigns }

abbrev pub set_column : ℕ → Term → Assign
set_column n t = record { column = n; term = t }

abbrev pub database : List ℕ → List (List ℕ) → List ℕ → RawDb
database sizes tables constants = record { sizes = sizes; tables = tables; constants = constants }

abbrev pub state : List ℕ → List (List (List ℕ)) → State
state vars relations = record { vars = vars; relations = relations }

abbrev pub choice : ℕ → List ℕ → List ℕ → Choice
choice n rows values = record { transition = n; rows = rows; values = values }

abbrev pub tree : List Node → Tree
tree nodes = record { nodes = nodes }
