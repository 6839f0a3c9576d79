-- The columns of the relations by their numbers.
use Rattle.std.specs.Prelude.{ℕ, List, [], slice_get}
use Rattle.std.specs.Option.{option_map_or}
use Rattle.ras_syntax.specs.Grammar.{Text}
use Rattle.ras_logic.specs.declared.ids.SortId.{SortId}
use Rattle.ras_scope.specs.declared.table.Table.{Table}

-- the names of the columns of the n-th relation, and their sorts; none where there is no such relation
abbrev pub column_names : List (Table SortId) → ℕ → List Text
column_names columns n = option_map_or (λ (t : Table SortId). t.names) (slice_get columns n) []

abbrev pub column_sorts : List (Table SortId) → ℕ → List SortId
column_sorts columns n = option_map_or (λ (t : Table SortId). t.values.items) (slice_get columns n) []
