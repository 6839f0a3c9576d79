-- The names that a file declares, in the order of their numbers.
use Rattle.std.specs.Prelude.{List, map, length}
use Rattle.ras_syntax.specs.Grammar as grammar
use Rattle.ras_syntax.specs.Grammar.{Text}
use Rattle.ras_names.specs.declared.names.RelNames.{RelNames}
use Rattle.ras_names.specs.declared.names.StepNames.{StepNames}
use Rattle.ras_names.specs.declared.names.GoalNames.{GoalNames}
use Rattle.ras_names.specs.declared.names.Names.{Names}
use Rattle.ras_names.specs.FileParts.{columns, disjuncts}

abbrev pub names_of_relation : grammar.Relation → RelNames
names_of_relation r = record { name = r.name; columns = map (λ (c : grammar.Column). c.name) (columns r) }

abbrev pub names_of_rows : List grammar.Row → List Text
names_of_rows rows = map (λ (r : grammar.Row). r.name) rows

abbrev pub names_of_params : List grammar.Param → List Text
names_of_params params = map (λ (p : grammar.Param). p.name) params

abbrev pub names_of_step : grammar.Step → StepNames
names_of_step s = record {
  name = s.name;
  rows = names_of_rows s.rows;
  params = names_of_params s.params;
  each = map (λ (e : grammar.Each). e.row) s.eachs;
}

abbrev pub names_of_goal : grammar.Goal → GoalNames
names_of_goal g = record { rows = names_of_rows g.rows; disjuncts = length (disjuncts g.guard) }

abbrev pub names_of : grammar.File → Names
names_of f = record {
  system = f.name;
  sorts = map (λ (s : grammar.Sort). s.name) f.sorts;
  functions = map (λ (g : grammar.Function). g.name) f.functions;
  constants = map (λ (c : grammar.Constant). c.name) f.constants;
  vars = map (λ (v : grammar.Variable). v.name) f.variables;
  relations = map names_of_relation f.relations;
  steps = map names_of_step f.steps;
  goals = map names_of_goal f.goals;
}
