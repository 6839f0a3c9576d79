-- A system without relations and data parameters, in numbers.
use Rattle.std.specs.Prelude.{ℕ, List, [], ◌∷◌, map, Option, Some, None}
use Rattle.ras_logic.specs.declared.ids.SortId.{SortId}
use Rattle.ras_logic.specs.declared.ids.ConstId.{ConstId}
use Rattle.ras_logic.specs.declared.function.FunDecl.{FunDecl}
use Rattle.ras_logic.specs.declared.literal.Literal.{Literal}
use Rattle.ras_logic.specs.declared.problem.Problem.{Problem}
use Rattle.ras_system.specs.declared.update.Target.{Target}
use Rattle.ras_system.specs.declared.update.Target.TheVariants.{Var, Cell}
use Rattle.ras_system.specs.declared.update.Update.{Update}
use Rattle.ras_system.specs.declared.transition.Transition.{Transition}
use Rattle.ras_logic.specs.Schemas.{SchemaParts}
use Rattle.ras_logic.specs.Shapes.{ShapeParts}
use Rattle.ras_system.specs.Systems.{SystemParts}
use Rattle.ras_bundles.specs.declared.system_lines.FunctionLine.{FunctionLine}
use Rattle.ras_bundles.specs.declared.system_lines.VariableLine.{VariableLine}
use Rattle.ras_bundles.specs.declared.system_lines.UpdateLine.{UpdateLine}
use Rattle.ras_bundles.specs.declared.system_lines.TransitionLines.{TransitionLines}
use Rattle.ras_bundles.specs.declared.system_lines.SystemLines.{SystemLines}

abbrev pub function_numbers : FunDecl → FunctionLine
function_numbers f = record { source = f.source.n; target = f.target.n; total = f.total }

abbrev pub sort_number : SortId → ℕ
sort_number s = s.n

abbrev pub constant_number : Option ConstId → Option ℕ
constant_number None = None
constant_number (Some c) = Some c.n

-- each variable's sort with its initial constant
abbrev pub variables_of : List SortId → List (Option ConstId) → List VariableLine
variables_of (s ∷ sorts) (c ∷ initial) = record { sort = s.n; initial = constant_number c } ∷ variables_of sorts initial
variables_of _ _ = []

-- a disjunct of a guard is a cube without rows
abbrev pub disjunct_cube : List Literal → Problem
disjunct_cube literals = record { rows = []; params = []; literals = literals }

-- only variables are assigned where there are no relations
abbrev pub target_number : Target → ℕ
target_number (Var v) = v.n
target_number (Cell row column) = 0

abbrev pub update_numbers : Update → UpdateLine
update_numbers u = record { target = target_number u.target; term = u.term }

abbrev pub transition_numbers : Transition → TransitionLines
transition_numbers t = record { guard = map disjunct_cube t.guard; updates = map update_numbers t.updates }

abbrev pub numbers_of : SystemParts → SystemLines
numbers_of s = record {
  sorts = s.shape.schema.sorts;
  functions = map function_numbers s.shape.schema.functions;
  constants = record { sorts = map sort_number s.shape.schema.constants };
  variables = variables_of s.shape.vars s.initial;
  transitions = map transition_numbers s.transitions;
  goals = s.goals;
}

-- The system that numbers name. It need not be one that fits.

abbrev pub function_named : FunctionLine → FunDecl
function_named l = record { source = record { n = l.source }; target = record { n = l.target }; total = l.total }

abbrev pub sort_named : ℕ → SortId
sort_named n = record { n = n }

abbrev pub constant_named : Option ℕ → Option ConstId
constant_named None = None
constant_named (Some n) = Some (record { n = n })

abbrev pub variable_sort : VariableLine → SortId
variable_sort l = sort_named l.sort

abbrev pub variable_initial : VariableLine → Option ConstId
variable_initial l = constant_named l.initial

abbrev pub literals_of : Problem → List Literal
literals_of p = p.literals

abbrev pub update_named : UpdateLine → Update
update_named l = record { target = Var (record { n = l.target }); term = l.term }

abbrev pub transition_named : TransitionLines → Transition
transition_named l = record { rows = []; params = []; guard = map literals_of l.guard; updates = map update_named l.updates; bulk = [] }

abbrev pub schema_named : SystemLines → SchemaParts
schema_named l = record { sorts = l.sorts; functions = map function_named l.functions; constants = map sort_named l.constants.sorts }

abbrev pub shape_named : SystemLines → ShapeParts
shape_named l = record { schema = schema_named l; vars = map variable_sort l.variables; relations = [] }

abbrev pub system_named : SystemLines → SystemParts
system_named l = record { shape = shape_named l; initial = map variable_initial l.variables; transitions = map transition_named l.transitions; goals = l.goals }
