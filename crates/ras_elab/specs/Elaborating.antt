-- What the items of a file say all together, and what is answered of the tokens of a file.
use Rattle.std.specs.Prelude.{◌≡◌, ℕ, List, [], ◌∷◌, map, flat_map}
use Rattle.ras_lexer.specs.declared.token.Token.{Token}
use Rattle.ras_syntax.specs.Grammar.{Text}
use Rattle.ras_logic.specs.declared.ids.SortId.{SortId}
use Rattle.ras_logic.specs.declared.function.FunDecl.{FunDecl}
use Rattle.ras_logic.specs.Shapes.{ShapeParts}
use Rattle.ras_names.specs.declared.names.RelNames.{RelNames}
use Rattle.ras_names.specs.declared.names.StepNames.{StepNames}
use Rattle.ras_names.specs.declared.names.GoalNames.{GoalNames}
use Rattle.ras_names.specs.declared.names.Names.{Names}
use Rattle.ras_names.specs.Placed as placed
use Rattle.ras_names.specs.Unplaced.{step_of, goal_of}
use Rattle.ras_names.specs.FileNames.{names_of_step, names_of_goal}
use Rattle.ras_names.specs.Faults.{IsFirstFault}
use Rattle.ras_numbering.specs.FileValues.{initial_value, step_value, goal_values}
use Rattle.ras_scope.specs.declared.table.Table.{Table}
use Rattle.ras_scope.specs.declared.declared.Declared.{Declared}
use Rattle.ras_elab.specs.declared.elaborating.Parts.{Parts}
use Rattle.ras_scope.specs.declared.fault.SpecError.{SpecError}
use Rattle.ras_scope.specs.declared.fault.SpecError.TheVariants.{Fault, Memory}
use Rattle.ras_scope.specs.Agreeing.{Agrees}

-- what was read of a file is what its items say
pub record ArePartsOf (file : placed.File) (parts : Parts) : Type 0 where
  pub agrees : Agrees file parts.declared
  pub initial : parts.initial ≡ map (initial_value file) file.variables
  pub transitions : parts.transitions ≡ map (step_value file) file.steps
  pub cubes : parts.cubes ≡ flat_map (goal_values file) file.goals
  pub steps : parts.steps ≡ map names_of_step (map step_of file.steps)
  pub goals : parts.goals ≡ map names_of_goal (map goal_of file.goals)

-- each relation with the names of its columns
abbrev pub named_columns : List Text → List (Table SortId) → List RelNames
named_columns [] columns = []
named_columns (name ∷ names) [] = []
named_columns (name ∷ names) (table ∷ tables) = record { name = name; columns = table.names } ∷ named_columns names tables

-- all names: those of the declared parts, and these
abbrev pub names_with : Text → Declared → List StepNames → List GoalNames → Names
names_with system d steps goals = record {
  system = system;
  sorts = d.sorts;
  functions = d.functions.names;
  constants = d.constants.names;
  vars = d.vars.names;
  relations = named_columns d.relations d.columns.items;
  steps = steps;
  goals = goals;
}

abbrev pub shape_with : ℕ → List FunDecl → List SortId → List SortId → List (List SortId) → ShapeParts
shape_with sorts functions constants vars relations = record {
  schema = record { sorts = sorts; functions = functions; constants = constants };
  vars = vars;
  relations = relations;
}

-- the error is the first fault of the tokens; want of memory says nothing of them
abbrev pub IsFaultOf : List Token → SpecError → Type 0
IsFaultOf tokens (Fault f) = IsFirstFault tokens f
IsFaultOf tokens (Memory e) = Unit {0}

abbrev pub IsMemory : SpecError → Type 0
IsMemory (Fault f) = ⊥
IsMemory (Memory e) = Unit {0}
