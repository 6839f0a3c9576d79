-- The sort of a part, by its name and by its number.
use Rattle.std.specs.Prelude.{◌≡◌, Option, Some, None}
use Rattle.ras_syntax.specs.Grammar.{Text}
use Rattle.ras_logic.specs.declared.ids.SortId.{SortId}
use Rattle.ras_names.specs.Placed as placed
use Rattle.ras_numbering.specs.Numbers.{sort_named}
use Rattle.ras_scope.specs.Agreeing.{IsSortText}

-- the name is that of a declared sort, which has the number; or there is no sort at all
abbrev pub IsSortOf : placed.File → Option Text → Option SortId → Type 0
IsSortOf file None None = Unit {0}
IsSortOf file None (Some s) = ⊥
IsSortOf file (Some text) None = ⊥
IsSortOf file (Some text) (Some s) = IsSortText file text × (sort_named file text ≡ s)
