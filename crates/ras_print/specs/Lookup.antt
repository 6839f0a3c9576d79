-- The names of numbers. A number beyond the names has none, which is the empty text.
use Rattle.std.specs.Prelude.{ℕ, List, [], slice_get, slice_index_or, Option, Some, None}
use Rattle.ras_logic.specs.declared.ids.ConstId.{ConstId}
use Rattle.ras_logic.specs.declared.ids.RelId.{RelId}
use Rattle.ras_syntax.specs.Grammar.{Text}
use Rattle.ras_names.specs.declared.names.RelNames.{RelNames}
use Rattle.ras_names.specs.declared.names.Names.{Names}

abbrev pub name_at : List Text → ℕ → Text
name_at names n = slice_index_or names n []

abbrev pub name_of_relation : Option RelNames → Text
name_of_relation None = []
name_of_relation (Some r) = r.name

abbrev pub names_of_columns : Option RelNames → List Text
names_of_columns None = []
names_of_columns (Some r) = r.columns

-- the name of a relation, and the names of its columns
abbrev pub relation_at : Names → ℕ → Text
relation_at names n = name_of_relation (slice_get names.relations n)

abbrev pub columns_at : Names → ℕ → List Text
columns_at names n = names_of_columns (slice_get names.relations n)

-- a column of a row that is of this relation
abbrev pub column_of : Names → Option RelId → ℕ → Text
column_of names None n = []
column_of names (Some r) n = name_at (columns_at names r.n) n

-- a column of the row of this number
abbrev pub column_at : Names → List RelId → ℕ → ℕ → Text
column_at names relations m n = column_of names (slice_get relations m) n

-- the name of an initial constant, if there is one
abbrev pub constant_name : Names → Option (Option ConstId) → Option Text
constant_name names None = None
constant_name names (Some None) = None
constant_name names (Some (Some c)) = Some (name_at names.constants c.n)
