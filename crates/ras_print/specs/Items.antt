-- The items of the grammar that terms, literals and the parts of a system are written as, with the names of their numbers.
use Rattle.std.specs.Prelude.{ℕ, List, [], ◌∷◌, map, Option, Some, None, slice_get}
use Rattle.ras_logic.specs.declared.ids.SortId.{SortId}
use Rattle.ras_logic.specs.declared.ids.FunId.{FunId}
use Rattle.ras_logic.specs.declared.ids.ConstId.{ConstId}
use Rattle.ras_logic.specs.declared.ids.RelId.{RelId}
use Rattle.ras_logic.specs.declared.function.FunDecl.{FunDecl}
use Rattle.ras_logic.specs.declared.term.Base.{Base}
use Rattle.ras_logic.specs.declared.term.Base.TheVariants.{Var, Cell, Constant, Undef, Param}
use Rattle.ras_logic.specs.declared.term.Term.{Term}
use Rattle.ras_logic.specs.declared.literal.Literal.{Literal}
use Rattle.ras_logic.specs.declared.literal.Literal.TheVariants.{Equal}
use Rattle.ras_system.specs.declared.update.Target.{Target}
use Rattle.ras_system.specs.declared.update.Target.TheVariants as target
use Rattle.ras_system.specs.declared.update.Update.{Update}
use Rattle.ras_system.specs.declared.bulk.Assign.{Assign}
use Rattle.ras_system.specs.declared.bulk.Bulk.{Bulk}
use Rattle.ras_syntax.specs.Grammar as grammar
use Rattle.ras_syntax.specs.Grammar.{Text}
use Rattle.ras_names.specs.declared.names.Names.{Names}
use Rattle.ras_names.specs.Terms.{Scope}
use Rattle.ras_print.specs.Lookup.{name_at, relation_at, column_at, constant_name}

module _ (names : Names) where
  abbrev pub function_at : ℕ → FunDecl → grammar.Function
  function_at n d = record { total = d.total; name = name_at names.functions n; source = name_at names.sorts d.source.n; target = name_at names.sorts d.target.n }

  abbrev pub constant_at : ℕ → SortId → grammar.Constant
  constant_at n s = record { name = name_at names.constants n; sort = name_at names.sorts s.n }

  abbrev pub variable_at : List (Option ConstId) → ℕ → SortId → grammar.Variable
  variable_at initial n s = record { name = name_at names.vars n; sort = name_at names.sorts s.n; initial = constant_name names (slice_get initial n) }

  abbrev pub column_item : List Text → ℕ → SortId → grammar.Column
  column_item columns n s = record { name = name_at columns n; sort = name_at names.sorts s.n }

  abbrev pub row_item : List Text → ℕ → RelId → grammar.Row
  row_item rows n r = record { name = name_at rows n; relation = relation_at names r.n }

  abbrev pub param_item : List Text → ℕ → SortId → grammar.Param
  param_item params n s = record { name = name_at params n; sort = name_at names.sorts s.n }

  -- the functions around a term, the first of them inside
  abbrev pub called : List FunId → grammar.Term → grammar.Term
  called [] inside = inside
  called (f ∷ fs) inside = called fs (grammar.call (name_at names.functions f.n) inside)

module _ (scope : Scope) where
  abbrev pub base_item : Base → grammar.Term
  base_item (Var v) = grammar.plain (name_at scope.names.vars v.n)
  base_item (Cell m n) = grammar.cell (name_at scope.rows m) (column_at scope.names scope.relations m n)
  base_item (Constant c) = grammar.plain (name_at scope.names.constants c.n)
  base_item (Undef s) = grammar.undef
  base_item (Param p) = grammar.plain (name_at scope.params p)

  abbrev pub term_item : Term → grammar.Term
  term_item t = called scope.names t.path (base_item t.base)

  abbrev pub literal_item : Literal → grammar.Literal
  literal_item (Equal left right same) = record { left = term_item left; equal = same; right = term_item right }

  abbrev pub conjunction_item : List Literal → grammar.Conjunction
  conjunction_item [] = grammar.always
  conjunction_item (l ∷ ls) = grammar.all (literal_item l) (map literal_item ls)

  abbrev pub update_of : Target → Term → grammar.Update
  update_of (target.Var v) t = record { name = name_at scope.names.vars v.n; column = None; term = term_item t }
  update_of (target.Cell m n) t = record { name = name_at scope.rows m; column = Some (column_at scope.names scope.relations m n); term = term_item t }

  abbrev pub update_item : Update → grammar.Update
  update_item u = update_of u.target u.term

  -- an assignment to the row of this number
  abbrev pub assignment_item : ℕ → Assign → grammar.Assignment
  assignment_item row a = record { row = name_at scope.rows row; column = column_at scope.names scope.relations row a.column; term = term_item a.term }

  abbrev pub case_item : ℕ → Bulk → grammar.Case
  case_item row b = record { condition = conjunction_item b.condition; assignments = map (assignment_item row) b.assigns }
