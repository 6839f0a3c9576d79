-- What terms and literals denote, by the numbers of names.
use Rattle.std.specs.Prelude.{ℕ, List, [], ◌∷◌, Option, position, map, reverse, option_map}
use Rattle.std.specs.Option.{option_map_or}
use Rattle.std.specs.Str.{bytes_eq}
use Rattle.ras_syntax.specs.Grammar.{Text}
use Rattle.ras_logic.specs.declared.ids.SortId.{SortId}
use Rattle.ras_logic.specs.declared.term.Base.{Base}
use Rattle.ras_logic.specs.declared.term.Base.TheVariants.{Var, Cell, Constant, Undef, Param}
use Rattle.ras_logic.specs.declared.term.Term.{Term}
use Rattle.ras_logic.specs.declared.literal.Literal.{Literal}
use Rattle.ras_logic.specs.declared.literal.Literal.TheVariants.{Equal}
use Rattle.ras_names.specs.Placed as placed
use Rattle.ras_names.specs.Placed.{Name, disjuncts, literals}
use Rattle.ras_names.specs.Checks.{declared_texts}
use Rattle.ras_names.specs.TermChecks.{Scope, columns_of_row, source_of, term_sort}
use Rattle.ras_names.specs.StepChecks.{variable_texts}
use Rattle.ras_numbering.specs.Numbers.{number_in, sort_named, function_of_name}

module _ (scope : Scope) where
  -- a constant, else a variable, else a data parameter
  abbrev pub plain_value : Text → Base
  plain_value name =
      option_map_or (λ (c : ℕ). Constant (record { n = c })) (position (bytes_eq name) (declared_texts scope.file.constants))
      (option_map_or (λ (v : ℕ). Var (record { n = v })) (position (bytes_eq name) (variable_texts scope.file))
      (Param (number_in (declared_texts scope.params) name)))

  abbrev pub row_number : Name → ℕ
  row_number row = number_in (declared_texts scope.rows) row.text

  abbrev pub column_number : Name → Name → ℕ
  column_number row column = number_in (declared_texts (columns_of_row scope row)) column.text

  -- `undef` is that of the sort which its place wants
  abbrev pub base_value : SortId → placed.Base → Base
  base_value wanted (placed.undef place) = Undef wanted
  base_value wanted (placed.plain n) = plain_value n.text
  base_value wanted (placed.cell row column) = Cell (row_number row) (column_number row column)

  -- the sort of a text, or this one
  abbrev pub sort_or : SortId → Option Text → SortId
  sort_or wanted text = option_map_or (sort_named scope.file) text wanted

  -- what is wanted inside functions, which stand from the outside in: the source of the innermost
  abbrev pub wanted_within : SortId → List Name → SortId
  wanted_within wanted [] = wanted
  wanted_within wanted (f ∷ fs) = wanted_within (sort_or wanted (source_of scope.file f)) fs

  -- a term where its place wants this sort
  abbrev pub term_value : SortId → placed.Term → Term
  term_value wanted t = record {
    base = base_value (wanted_within wanted t.functions) t.base;
    path = reverse (map (function_of_name scope.file) t.functions);
  }

  -- the sort of a term, where it has one of its own
  abbrev pub sort_value : placed.Term → Option SortId
  sort_value t = option_map (sort_named scope.file) (term_sort scope t)

  -- the one sort of both sides
  abbrev pub literal_sort : placed.Literal → SortId
  literal_sort l = sort_or (sort_or (record { n = 0 }) (term_sort scope l.right)) (term_sort scope l.left)

  abbrev pub literal_value : placed.Literal → Literal
  literal_value l = Equal (term_value (literal_sort l) l.left) (term_value (literal_sort l) l.right) l.equal

  abbrev pub conjunction_value : placed.Conjunction → List Literal
  conjunction_value c = map literal_value (literals c)

  abbrev pub guard_value : placed.Guard → List (List Literal)
  guard_value g = map conjunction_value (disjuncts g)
