-- A file without its places.
use Rattle.std.specs.Prelude.{List, [], ◌∷◌, map, option_map}
use Rattle.ras_syntax.specs.Grammar as grammar
use Rattle.ras_syntax.specs.Grammar.{Text}
use Rattle.ras_names.specs.Placed as placed

abbrev pub sort_of : placed.Name → grammar.Sort
sort_of n = record { name = n.text }

abbrev pub function_of : placed.Function → grammar.Function
function_of f = record { total = f.total; name = f.name.text; source = f.source.text; target = f.target.text }

abbrev pub constant_of : placed.Declared → grammar.Constant
constant_of d = record { name = d.name.text; sort = d.of.text }

abbrev pub column_of : placed.Declared → grammar.Column
column_of d = record { name = d.name.text; sort = d.of.text }

abbrev pub row_of : placed.Declared → grammar.Row
row_of d = record { name = d.name.text; relation = d.of.text }

abbrev pub param_of : placed.Declared → grammar.Param
param_of d = record { name = d.name.text; sort = d.of.text }

abbrev pub variable_of : placed.Variable → grammar.Variable
variable_of v = record { name = v.name.text; sort = v.sort.text; initial = option_map (λ (i : placed.Initial). i.constant.text) v.initial }

abbrev pub relation_of : placed.Relation → grammar.Relation
relation_of r = record { name = r.name.text; first = column_of r.first; others = map column_of r.others }

abbrev pub base_of : placed.Base → grammar.Term
base_of (placed.undef place) = grammar.undef
base_of (placed.plain n) = grammar.plain n.text
base_of (placed.cell row column) = grammar.cell row.text column.text

abbrev pub called_of : List placed.Name → placed.Base → grammar.Term
called_of [] b = base_of b
called_of (f ∷ fs) b = grammar.call f.text (called_of fs b)

abbrev pub term_of : placed.Term → grammar.Term
term_of t = called_of t.functions t.base

abbrev pub literal_of : placed.Literal → grammar.Literal
literal_of l = record { left = term_of l.left; equal = l.equal; right = term_of l.right }

abbrev pub conjunction_of : placed.Conjunction → grammar.Conjunction
conjunction_of (placed.always place) = grammar.always
conjunction_of (placed.all l ls) = grammar.all (literal_of l) (map literal_of ls)

abbrev pub guard_of : placed.Guard → grammar.Guard
guard_of g = record { first = conjunction_of g.first; others = map conjunction_of g.others }

abbrev pub update_of : placed.Update → grammar.Update
update_of u = record { name = u.name.text; column = option_map (λ (n : placed.Name). n.text) u.column; term = term_of u.term }

abbrev pub assignment_of : placed.Assignment → grammar.Assignment
assignment_of a = record { row = a.row.text; column = a.column.text; term = term_of a.term }

abbrev pub case_of : placed.Case → grammar.Case
case_of c = record { condition = conjunction_of c.condition; assignments = map assignment_of c.assignments }

abbrev pub each_of : placed.Each → grammar.Each
each_of e = record { row = e.row.text; relation = e.relation.text; first = case_of e.first; others = map case_of e.others }

abbrev pub step_of : placed.Step → grammar.Step
step_of s = record {
  name = s.name.text;
  rows = map row_of s.rows;
  params = map param_of s.params;
  guard = guard_of s.guard;
  updates = map update_of s.updates;
  eachs = map each_of s.eachs;
}

abbrev pub goal_of : placed.Goal → grammar.Goal
goal_of g = record { rows = map row_of g.rows; guard = guard_of g.guard }

abbrev pub file_of : placed.File → grammar.File
file_of f = record {
  name = f.name.text;
  sorts = map sort_of f.sorts;
  functions = map function_of f.functions;
  constants = map constant_of f.constants;
  variables = map variable_of f.variables;
  relations = map relation_of f.relations;
  steps = map step_of f.steps;
  goals = map goal_of f.goals;
}
