-- The system that a file without a fault denotes, by the numbers of names.
use Rattle.std.specs.Prelude.{List, [], Option, Some, None, map, flat_map, length, option_map}
use Rattle.ras_logic.specs.declared.ids.SortId.{SortId}
use Rattle.ras_logic.specs.declared.ids.ConstId.{ConstId}
use Rattle.ras_logic.specs.declared.function.FunDecl.{FunDecl}
use Rattle.ras_logic.specs.declared.problem.Problem.{Problem}
use Rattle.ras_logic.specs.Shapes.{ShapeParts}
use Rattle.ras_system.specs.declared.update.Target.{Target}
use Rattle.ras_system.specs.declared.update.Target.TheVariants.{Var, Cell}
use Rattle.ras_system.specs.declared.update.Update.{Update}
use Rattle.ras_system.specs.declared.bulk.Assign.{Assign}
use Rattle.ras_system.specs.declared.bulk.Bulk.{Bulk}
use Rattle.ras_system.specs.declared.transition.Transition.{Transition}
use Rattle.ras_system.specs.Systems.{SystemParts}
use Rattle.ras_names.specs.Placed as placed
use Rattle.ras_names.specs.Placed.{Name, Declared, columns, disjuncts, cases}
use Rattle.ras_names.specs.Checks.{declared_texts, declared_of}
use Rattle.ras_names.specs.TermChecks.{Scope, columns_named}
use Rattle.ras_names.specs.StepChecks.{variable_texts, target_sort, with_row}
use Rattle.ras_numbering.specs.Numbers.{number_in, sort_named, declared_sort, constant_of_name, relation_named, declared_relation}
use Rattle.ras_numbering.specs.TermValues.{row_number, column_number, sort_or, term_value, conjunction_value, guard_value}

module _ (scope : Scope) where
  -- a variable, or a cell of a row parameter
  abbrev pub target_value : Name → Option Name → Target
  target_value name None = Var (record { n = number_in (variable_texts scope.file) name.text })
  target_value name (Some column) = Cell (row_number scope name) (column_number scope name column)

  abbrev pub update_value : placed.Update → Update
  update_value u = record {
    target = target_value u.name u.column;
    term = term_value scope (sort_or scope (record { n = 0 }) (target_sort scope u.name u.column)) u.term;
  }

  -- an assignment inside an `each`, whose columns are these
  abbrev pub assignment_value : List Declared → placed.Assignment → Assign
  assignment_value all a = record {
    column = number_in (declared_texts all) a.column.text;
    term = term_value scope (sort_or scope (record { n = 0 }) (declared_of all a.column.text)) a.term;
  }

  -- a case inside this `each`
  abbrev pub case_value : placed.Each → placed.Case → Bulk
  case_value e c = record {
    relation = relation_named scope.file e.relation.text;
    condition = conjunction_value scope c.condition;
    assigns = map (assignment_value (columns_named scope.file e.relation.text)) c.assignments;
  }

  abbrev pub each_value : placed.Each → List Bulk
  each_value e = map (case_value e) (cases e)

-- the cases of all `each` of a step
abbrev pub cases_value : Scope → List placed.Each → List Bulk
cases_value scope eachs = flat_map (λ (e : placed.Each). each_value (with_row scope e) e) eachs

module _ (file : placed.File) where
  abbrev pub function_value : placed.Function → FunDecl
  function_value f = record { source = sort_named file f.source.text; target = sort_named file f.target.text; total = f.total }

  abbrev pub variable_value : placed.Variable → SortId
  variable_value v = sort_named file v.sort.text

  abbrev pub initial_value : placed.Variable → Option ConstId
  initial_value v = option_map (λ (i : placed.Initial). constant_of_name file i.constant) v.initial

  abbrev pub relation_value : placed.Relation → List SortId
  relation_value r = map (declared_sort file) (columns r)

  abbrev pub shape_value : ShapeParts
  shape_value = record {
    schema = record { sorts = length file.sorts; functions = map function_value file.functions; constants = map (declared_sort file) file.constants };
    vars = map variable_value file.variables;
    relations = map relation_value file.relations;
  }

  -- what a step may name, beside the row of an `each`
  abbrev pub step_names : placed.Step → Scope
  step_names s = record { file = file; rows = s.rows; params = s.params }

  abbrev pub step_value : placed.Step → Transition
  step_value s = record {
    rows = map (declared_relation file) s.rows;
    params = map (declared_sort file) s.params;
    guard = guard_value (step_names s) s.guard;
    updates = map (update_value (step_names s)) s.updates;
    bulk = cases_value (step_names s) s.eachs;
  }

  abbrev pub goal_names : placed.Goal → Scope
  goal_names g = record { file = file; rows = g.rows; params = [] }

  -- a goal for each disjunct
  abbrev pub goal_value : placed.Goal → placed.Conjunction → Problem
  goal_value g c = record { rows = map (declared_relation file) g.rows; params = []; literals = conjunction_value (goal_names g) c }

  abbrev pub goal_values : placed.Goal → List Problem
  goal_values g = map (goal_value g) (disjuncts g.guard)

  abbrev pub system_value : SystemParts
  system_value = record {
    shape = shape_value;
    initial = map initial_value file.variables;
    transitions = map step_value file.steps;
    goals = flat_map goal_values file.goals;
  }
