-- What stands above an item, and the checks of the items above the steps.
use Rattle.std.specs.Prelude.{◌≡◌, ◌≤◌, ℕ, List, [], Option, ◌++◌, length, take, map, All}
use Rattle.ras_syntax.specs.Grammar.{Text}
use Rattle.ras_logic.specs.declared.ids.SortId.{SortId}
use Rattle.ras_logic.specs.declared.ids.ConstId.{ConstId}
use Rattle.ras_logic.specs.declared.function.FunDecl.{FunDecl}
use Rattle.ras_names.specs.Placed as placed
use Rattle.ras_names.specs.Placed.{columns}
use Rattle.ras_names.specs.Checks.{Check, for_each, texts, declared_texts}
use Rattle.ras_names.specs.TermChecks.{function_texts}
use Rattle.ras_names.specs.StepChecks.{variable_texts, relation_texts}
use Rattle.ras_names.specs.FileChecks.{sort_checks, above_functions, above_constants, above_steps, function_checks, constant_checks, variable_checks, relation_checks}
use Rattle.ras_numbering.specs.Numbers.{declared_sort}
use Rattle.ras_numbering.specs.FileValues.{function_value, variable_value, initial_value, relation_value}
use Rattle.ras_scope.specs.declared.table.Table.{Table}
use Rattle.ras_scope.specs.declared.declared.Declared.{Declared}
use Rattle.ras_declarations.specs.declared.declarations.Declarations.{Declarations}
use Rattle.ras_scope.specs.Agreeing.{Agrees, IsSortText, IsOfSort, HasSortTexts, names_of_columns, sorts_of_columns}

-- the shared names, the sorts and the functions above the n-th function
pub record AreAbove (file : placed.File) (n : ℕ) (shared sorts : List Text) (functions : Table FunDecl) : Type 0 where
  pub shared_names : shared ≡ above_functions file ++ function_texts (take n file.functions)
  pub all_sorts : sorts ≡ texts file.sorts
  pub count : length functions.names ≡ n
  pub values : functions.values.items ≡ map (function_value file) (take n file.functions)
  pub sort_texts : All (HasSortTexts file) (take n file.functions)

-- all sorts, and the shared names above the functions
pub record AreSorts (file : placed.File) (shared sorts : List Text) : Type 0 where
  pub all_sorts : sorts ≡ texts file.sorts
  pub few : length sorts ≤ 64
  pub shared_names : shared ≡ above_functions file

-- all functions, and the shared names above the constants
pub record AreFunctions (file : placed.File) (shared : List Text) (functions : Table FunDecl) : Type 0 where
  pub names : functions.names ≡ function_texts file.functions
  pub values : functions.values.items ≡ map (function_value file) file.functions
  pub sort_texts : All (HasSortTexts file) file.functions
  pub shared_names : shared ≡ above_constants file

-- all constants
pub record AreConstants (file : placed.File) (constants : Table SortId) : Type 0 where
  pub names : constants.names ≡ declared_texts file.constants
  pub values : constants.values.items ≡ map (declared_sort file) file.constants
  pub sort_texts : All (IsOfSort file) file.constants

-- a variable of a declared sort, and a relation whose columns are of declared sorts
abbrev pub IsOfSortText : placed.File → placed.Variable → Type 0
IsOfSortText file v = IsSortText file v.sort.text

abbrev pub AreOfSort : placed.File → placed.Relation → Type 0
AreOfSort file r = All (IsOfSort file) (columns r)

-- all variables, and the initial constant of each
pub record AreVariables (file : placed.File) (vars : Table SortId) (initial : List (Option ConstId)) : Type 0 where
  pub names : vars.names ≡ variable_texts file
  pub values : vars.values.items ≡ map (variable_value file) file.variables
  pub initials : initial ≡ map (initial_value file) file.variables
  pub sort_texts : All (IsOfSortText file) file.variables

-- all relations, and the columns of each
pub record AreRelations (file : placed.File) (relations : List Text) (tables : List (Table SortId)) : Type 0 where
  pub names : relations ≡ relation_texts file
  pub columns : names_of_columns tables ≡ map (λ (r : placed.Relation). declared_texts (columns r)) file.relations
  pub values : sorts_of_columns tables ≡ map (relation_value file) file.relations
  pub sort_texts : All (AreOfSort file) file.relations

-- nothing is declared
pub record IsNothing (d : Declared) : Type 0 where
  pub shared : d.shared ≡ []
  pub sorts : d.sorts ≡ []
  pub functions : d.functions.names ≡ []
  pub function_values : d.functions.values.items ≡ []
  pub constants : d.constants.names ≡ []
  pub constant_values : d.constants.values.items ≡ []
  pub vars : d.vars.names ≡ []
  pub var_values : d.vars.values.items ≡ []
  pub relations : d.relations ≡ []
  pub columns : d.columns.items ≡ []

-- all that is declared above the steps, and the initial constants of the variables
pub record AreDeclarations (file : placed.File) (d : Declarations) : Type 0 where
  pub agrees : Agrees file d.declared
  pub shared_names : d.declared.shared ≡ above_steps file
  pub initials : d.initial ≡ map (initial_value file) file.variables

-- the checks of these items
abbrev pub schema_checks : placed.File → List Check
schema_checks file = for_each (sort_checks file) file.sorts ++ (for_each (function_checks file) file.functions ++ for_each (constant_checks file) file.constants)

-- the checks of all items above the steps
abbrev pub declaration_checks : placed.File → List Check
declaration_checks file = schema_checks file ++ (for_each (variable_checks file) file.variables ++ for_each (relation_checks file) file.relations)
