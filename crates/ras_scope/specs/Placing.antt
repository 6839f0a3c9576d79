-- The tree of a file, as a file with the places that a fault can name.
use Rattle.std.specs.Prelude.{Bool, true, false, map, option_map}
use Rattle.ras_syntax.specs.declared.tree.Name.{Name}
use Rattle.ras_syntax.specs.declared.tree.Sort.{Sort}
use Rattle.ras_syntax.specs.declared.tree.Totality.{Totality}
use Rattle.ras_syntax.specs.declared.tree.Totality.TheVariants.{Total, Nullable}
use Rattle.ras_syntax.specs.declared.tree.Function.{Function}
use Rattle.ras_syntax.specs.declared.tree.Constant.{Constant}
use Rattle.ras_syntax.specs.declared.tree.Initial.{Initial}
use Rattle.ras_syntax.specs.declared.tree.Variable.{Variable}
use Rattle.ras_syntax.specs.declared.tree.Column.{Column}
use Rattle.ras_syntax.specs.declared.tree.CommaColumn.{CommaColumn}
use Rattle.ras_syntax.specs.declared.tree.Relation.{Relation}
use Rattle.ras_syntax.specs.declared.tree.Row.{Row}
use Rattle.ras_syntax.specs.declared.tree.Param.{Param}
use Rattle.ras_syntax.specs.declared.tree.Call.{Call}
use Rattle.ras_syntax.specs.declared.tree.Base.{Base}
use Rattle.ras_syntax.specs.declared.tree.Base.TheVariants.{Undef, Plain, Cell}
use Rattle.ras_syntax.specs.declared.tree.Term.{Term}
use Rattle.ras_syntax.specs.declared.tree.Comparison.{Comparison}
use Rattle.ras_syntax.specs.declared.tree.Comparison.TheVariants.{Equal, NotEqual}
use Rattle.ras_syntax.specs.declared.tree.Literal.{Literal}
use Rattle.ras_syntax.specs.declared.tree.AndLiteral.{AndLiteral}
use Rattle.ras_syntax.specs.declared.tree.Conjunction.{Conjunction}
use Rattle.ras_syntax.specs.declared.tree.Conjunction.TheVariants.{True, All}
use Rattle.ras_syntax.specs.declared.tree.OrConjunction.{OrConjunction}
use Rattle.ras_syntax.specs.declared.tree.Guard.{Guard}
use Rattle.ras_syntax.specs.declared.tree.Dotted.{Dotted}
use Rattle.ras_syntax.specs.declared.tree.Update.{Update}
use Rattle.ras_syntax.specs.declared.tree.Assignment.{Assignment}
use Rattle.ras_syntax.specs.declared.tree.Case.{Case}
use Rattle.ras_syntax.specs.declared.tree.Each.{Each}
use Rattle.ras_syntax.specs.declared.tree.Step.{Step}
use Rattle.ras_syntax.specs.declared.tree.Goal.{Goal}
use Rattle.ras_syntax.specs.declared.tree.File.{File}
use Rattle.ras_names.specs.Placed as placed

abbrev pub placed_name : Name → placed.Name
placed_name n = record { at = n.at; text = n.text }

abbrev pub placed_sort : Sort → placed.Name
placed_sort s = placed_name s.name

abbrev pub is_total : Totality → Bool
is_total Total = true
is_total Nullable = false

abbrev pub placed_function : Function → placed.Function
placed_function f = record { total = is_total f.totality; name = placed_name f.name; source = placed_name f.source; target = placed_name f.target }

abbrev pub placed_constant : Constant → placed.Declared
placed_constant c = record { name = placed_name c.name; of = placed_name c.sort }

abbrev pub placed_initial : Initial → placed.Initial
placed_initial i = record { at = i.at; constant = placed_name i.constant }

abbrev pub placed_variable : Variable → placed.Variable
placed_variable v = record { name = placed_name v.name; sort = placed_name v.sort; initial = option_map placed_initial v.initial }

abbrev pub placed_column : Column → placed.Declared
placed_column c = record { name = placed_name c.name; of = placed_name c.sort }

abbrev pub placed_comma : CommaColumn → placed.Declared
placed_comma c = placed_column c.column

abbrev pub placed_relation : Relation → placed.Relation
placed_relation r = record { name = placed_name r.name; first = placed_column r.first; others = map placed_comma r.others.items }

abbrev pub placed_row : Row → placed.Declared
placed_row r = record { name = placed_name r.name; of = placed_name r.relation }

abbrev pub placed_param : Param → placed.Declared
placed_param p = record { name = placed_name p.name; of = placed_name p.sort }

abbrev pub placed_call : Call → placed.Name
placed_call c = placed_name c.function

abbrev pub placed_base : Base → placed.Base
placed_base (Undef place) = placed.undef place
placed_base (Plain n) = placed.plain (placed_name n)
placed_base (Cell row dot column) = placed.cell (placed_name row) (placed_name column)

abbrev pub placed_term : Term → placed.Term
placed_term t = record { functions = map placed_call t.calls.items; base = placed_base t.base }

abbrev pub is_equal : Comparison → Bool
is_equal Equal = true
is_equal NotEqual = false

abbrev pub placed_literal : Literal → placed.Literal
placed_literal l = record { left = placed_term l.left; at = l.at; equal = is_equal l.comparison; right = placed_term l.right }

abbrev pub placed_and : AndLiteral → placed.Literal
placed_and a = placed_literal a.literal

abbrev pub placed_conjunction : Conjunction → placed.Conjunction
placed_conjunction (True place) = placed.always place
placed_conjunction (All l ls) = placed.all (placed_literal l) (map placed_and ls.items)

abbrev pub placed_or : OrConjunction → placed.Conjunction
placed_or o = placed_conjunction o.conjunction

abbrev pub placed_guard : Guard → placed.Guard
placed_guard g = record { first = placed_conjunction g.first; others = map placed_or g.others.items }

abbrev pub placed_dotted : Dotted → placed.Name
placed_dotted d = placed_name d.column

abbrev pub placed_update : Update → placed.Update
placed_update u = record { name = placed_name u.target; column = option_map placed_dotted u.column; at = u.at; term = placed_term u.term }

abbrev pub placed_assignment : Assignment → placed.Assignment
placed_assignment a = record { row = placed_name a.row; column = placed_name a.column; at = a.at; term = placed_term a.term }

abbrev pub placed_case : Case → placed.Case
placed_case c = record { at = c.at; condition = placed_conjunction c.condition; assignments = map placed_assignment c.assignments.items }

abbrev pub placed_each : Each → placed.Each
placed_each e = record { row = placed_name e.row; relation = placed_name e.relation; first = placed_case e.first; others = map placed_case e.others.items }

abbrev pub placed_step : Step → placed.Step
placed_step s = record {
  name = placed_name s.name;
  rows = map placed_row s.rows.items;
  params = map placed_param s.params.items;
  guard = placed_guard s.guard;
  updates = map placed_update s.updates.items;
  eachs = map placed_each s.eachs.items;
}

abbrev pub placed_goal : Goal → placed.Goal
placed_goal g = record { rows = map placed_row g.rows.items; guard = placed_guard g.guard }

abbrev pub placed_file : File → placed.File
placed_file f = record {
  name = placed_name f.name;
  sorts = map placed_sort f.sorts.items;
  functions = map placed_function f.functions.items;
  constants = map placed_constant f.constants.items;
  variables = map placed_variable f.variables.items;
  relations = map placed_relation f.relations.items;
  steps = map placed_step f.steps.items;
  goals = map placed_goal f.goals.items;
}
