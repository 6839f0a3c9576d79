-- What a reader has declared is what the items of a file declare, by the numbers of names.
use Rattle.std.specs.Prelude.{◌≡◌, true, List, map, All}
use Rattle.ras_syntax.specs.Grammar.{Text}
use Rattle.ras_logic.specs.declared.ids.SortId.{SortId}
use Rattle.ras_names.specs.Placed as placed
use Rattle.ras_names.specs.Placed.{Declared as Item, columns}
use Rattle.ras_names.specs.Checks.{is_among, texts, declared_texts}
use Rattle.ras_names.specs.TermChecks.{function_texts}
use Rattle.ras_names.specs.StepChecks.{variable_texts, relation_texts}
use Rattle.ras_numbering.specs.Numbers.{declared_sort}
use Rattle.ras_numbering.specs.FileValues.{function_value, variable_value, relation_value}
use Rattle.ras_scope.specs.declared.table.Table.{Table}
use Rattle.ras_scope.specs.declared.declared.Declared.{Declared}

module _ (file : placed.File) where
  -- a declared sort, and a declared relation
  abbrev pub IsSortText : Text → Type 0
  IsSortText name = is_among (texts file.sorts) name ≡ true

  abbrev pub IsRelationText : Text → Type 0
  IsRelationText name = is_among (relation_texts file) name ≡ true

  -- what stands behind the colon is a declared sort
  abbrev pub IsOfSort : Item → Type 0
  IsOfSort d = IsSortText d.of.text

  -- both sorts of a function are declared
  abbrev pub HasSortTexts : placed.Function → Type 0
  HasSortTexts f = IsSortText f.source.text × IsSortText f.target.text

-- the columns of each relation: their names, and their sorts
abbrev pub names_of_columns : List (Table SortId) → List (List Text)
names_of_columns columns = map (λ (t : Table SortId). t.names) columns

abbrev pub sorts_of_columns : List (Table SortId) → List (List SortId)
sorts_of_columns columns = map (λ (t : Table SortId). t.values.items) columns

-- all items above the steps are declared, with declared sorts
pub record Agrees (file : placed.File) (d : Declared) : Type 0 where
  pub sorts : d.sorts ≡ texts file.sorts
  pub functions : d.functions.names ≡ function_texts file.functions
  pub function_values : d.functions.values.items ≡ map (function_value file) file.functions
  pub function_sorts : All (HasSortTexts file) file.functions
  pub constants : d.constants.names ≡ declared_texts file.constants
  pub constant_values : d.constants.values.items ≡ map (declared_sort file) file.constants
  pub constant_sorts : All (IsOfSort file) file.constants
  pub variables : d.vars.names ≡ variable_texts file
  pub variable_values : d.vars.values.items ≡ map (variable_value file) file.variables
  pub variable_sorts : All (λ (v : placed.Variable). IsSortText file v.sort.text) file.variables
  pub relations : d.relations ≡ relation_texts file
  pub column_names : names_of_columns d.columns.items ≡ map (λ (r : placed.Relation). declared_texts (columns r)) file.relations
  pub column_values : sorts_of_columns d.columns.items ≡ map (relation_value file) file.relations
  pub column_sorts : All (λ (r : placed.Relation). All (IsOfSort file) (columns r)) file.relations
