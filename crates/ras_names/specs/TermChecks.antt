-- The checks of terms and literals. Here a sort is its name, and none is that of `undef`, which takes the sort that its place wants.
use Rattle.std.specs.Prelude.{ℕ, Bool, true, false, not, List, [], ◌∷◌, ◌++◌, Option, Some, None, nat_le, map, find, option_map}
use Rattle.std.specs.Option.{option_map_or}
use Rattle.std.specs.Str.{bytes_eq}
use Rattle.ras_syntax.specs.Grammar.{Text}
use Rattle.ras_names.specs.declared.spec_fault.SpecKind.TheVariants.{WrongSort, TooWide}
use Rattle.ras_names.specs.Placed as placed
use Rattle.ras_names.specs.Placed.{Name, Declared, columns, disjuncts, literals, term_place, disjunct_place}
use Rattle.ras_names.specs.Checks.{Check, check, for_each, for_each_from, declared_texts, declared_of, used_check}

-- one sort on both sides, where `undef` is at most one of them
abbrev pub agree : Option Text → Option Text → Bool
agree None None = false
agree None (Some s) = true
agree (Some s) None = true
agree (Some s) (Some t) = bytes_eq s t

-- the file, and the rows and data parameters that may be used at a place
pub record Scope : Type 0 where
  pub file : placed.File
  pub rows : List Declared
  pub params : List Declared

abbrev pub variable_sort : placed.Variable → Declared
variable_sort v = record { name = v.name; of = v.sort }

-- the columns of a relation
abbrev pub columns_named : placed.File → Text → List Declared
columns_named file relation = option_map_or columns (find (λ (r : placed.Relation). bytes_eq r.name.text relation) file.relations) []

-- the function of this name
abbrev pub function_named : placed.File → Text → Option placed.Function
function_named file name = find (λ (f : placed.Function). bytes_eq f.name.text name) file.functions

abbrev pub function_texts : List placed.Function → List Text
function_texts functions = map (λ (f : placed.Function). f.name.text) functions

abbrev pub source_of : placed.File → Name → Option Text
source_of file f = option_map (λ (d : placed.Function). d.source.text) (function_named file f.text)

abbrev pub target_of : placed.File → Name → Option Text
target_of file f = option_map (λ (d : placed.Function). d.target.text) (function_named file f.text)

module _ (scope : Scope) where
  -- what a name alone may be: a constant, a variable or a data parameter
  abbrev pub plain_names : List Declared
  plain_names = scope.file.constants ++ (map variable_sort scope.file.variables ++ scope.params)

  -- the columns of the relation of a row
  abbrev pub columns_of_row : Name → List Declared
  columns_of_row row = option_map_or (columns_named scope.file) (declared_of scope.rows row.text) []

  -- `row.column`
  abbrev pub cell_checks : Name → Name → List Check
  cell_checks row column = used_check (declared_texts scope.rows) row ∷ used_check (declared_texts (columns_of_row row)) column ∷ []

  abbrev pub cell_sort : Name → Name → Option Text
  cell_sort row column = declared_of (columns_of_row row) column.text

  abbrev pub base_checks : placed.Base → List Check
  base_checks (placed.undef place) = []
  base_checks (placed.plain n) = used_check (declared_texts plain_names) n ∷ []
  base_checks (placed.cell row column) = cell_checks row column

  abbrev pub base_sort : placed.Base → Option Text
  base_sort (placed.undef place) = None
  base_sort (placed.plain n) = declared_of plain_names n.text
  base_sort (placed.cell row column) = cell_sort row column

  -- the sort of a base inside functions, which stand from the outside in: the target of the outermost
  abbrev pub sort_within : List Name → placed.Base → Option Text
  sort_within [] b = base_sort b
  sort_within (f ∷ fs) b = target_of scope.file f

  -- from the inside out, each function is applied to its source
  abbrev pub argument_checks : List Name → placed.Base → List Check
  argument_checks [] b = []
  argument_checks (f ∷ fs) b = argument_checks fs b ++ check f.at WrongSort (not (agree (source_of scope.file f) (sort_within fs b))) ∷ []

  abbrev pub term_sort : placed.Term → Option Text
  term_sort t = sort_within t.functions t.base

  -- the names of a term from left to right, and then its sorts
  abbrev pub term_checks : placed.Term → List Check
  term_checks t = map (used_check (function_texts scope.file.functions)) t.functions ++ (base_checks t.base ++ argument_checks t.functions t.base)

  -- the n-th literal where there is a limit: the left term, the right term, the sign
  abbrev pub literal_checks : ℕ → ℕ → placed.Literal → List Check
  literal_checks limit n l =
      check (term_place l.left) TooWide (nat_le limit n)
      ∷ term_checks l.left
      ++ (term_checks l.right
      ++ (check l.at WrongSort (not (agree (term_sort l.left) (term_sort l.right))) ∷ []))

  abbrev pub conjunction_checks : ℕ → placed.Conjunction → List Check
  conjunction_checks limit c = for_each (literal_checks limit) (literals c)

  -- the n-th disjunct: at most 64, each of at most 128 literals
  abbrev pub disjunct_checks : ℕ → placed.Conjunction → List Check
  disjunct_checks n c = check (disjunct_place c) TooWide (nat_le 64 n) ∷ conjunction_checks 128 c

  -- a guard whose first disjunct has the number n
  abbrev pub guard_checks : ℕ → placed.Guard → List Check
  guard_checks n g = for_each_from n disjunct_checks (disjuncts g)
