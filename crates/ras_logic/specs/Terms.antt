-- The sort of a term.
use Rattle.std.specs.Prelude.{List, [], ◌∷◌, ◌++◌, slice_get, nat_eq, nat_lt, Option, Some, None, option_and_then, if◌then◌else◌}
use Rattle.ras_logic.specs.declared.ids.SortId.{SortId}
use Rattle.ras_logic.specs.declared.ids.FunId.{FunId}
use Rattle.ras_logic.specs.declared.ids.ConstId.{ConstId}
use Rattle.ras_logic.specs.declared.ids.RelId.{RelId}
use Rattle.ras_logic.specs.declared.function.FunDecl.{FunDecl}
use Rattle.ras_logic.specs.declared.term.Base.{Base}
use Rattle.ras_logic.specs.declared.term.Base.TheVariants.{Var, Cell, Constant, Undef, Param}
use Rattle.ras_logic.specs.declared.term.Term.{Term}
use Rattle.ras_logic.specs.Schemas.{SchemaParts}
use Rattle.ras_logic.specs.Shapes.{ShapeParts, columns_of}

-- a base alone, with no function applied
abbrev pub base_term : Base → Term
base_term b = record { base = b; path = [] }

abbrev pub constant_term : ConstId → Term
constant_term c = base_term (Constant c)

abbrev pub undef_term : SortId → Term
undef_term s = base_term (Undef s)

-- the term, one function further
abbrev pub image_term : Term → FunId → Term
image_term t f = record { base = t.base; path = t.path ++ f ∷ [] }

-- the sort of a base among these named rows and data parameters, where its numbers name something
abbrev pub sort_of_base : ShapeParts → List RelId → List SortId → Base → Option SortId
sort_of_base shape rows params (Var v) = slice_get shape.vars v.n
sort_of_base shape rows params (Cell row column) =
    option_and_then (λ (r : RelId). option_and_then (λ (columns : List SortId). slice_get columns column) (columns_of shape r)) (slice_get rows row)
sort_of_base shape rows params (Constant c) = slice_get shape.schema.constants c.n
sort_of_base shape rows params (Undef s) = if nat_lt s.n shape.schema.sorts then Some s else None
sort_of_base shape rows params (Param p) = slice_get params p

-- the target of a function, where there is one of that number and the sort is its source
abbrev pub sort_after : SchemaParts → FunId → SortId → Option SortId
sort_after schema f s =
    option_and_then (λ (d : FunDecl). if nat_eq d.source.n s.n then Some d.target else None) (slice_get schema.functions f.n)

-- the sort that a path leads to
abbrev pub sort_along : SchemaParts → List FunId → SortId → Option SortId
sort_along schema [] s = Some s
sort_along schema (f ∷ path) s = option_and_then (sort_along schema path) (sort_after schema f s)

-- the sort of a term: none where a number names nothing, or a function's source is another sort
abbrev pub sort_of : ShapeParts → List RelId → List SortId → Term → Option SortId
sort_of shape rows params t = option_and_then (sort_along shape.schema t.path) (sort_of_base shape rows params t.base)

-- the base of a term replaced by a term, whose path the path of the old term follows
abbrev pub replace_term : (Base → Term) → Term → Term
replace_term f t = let u : Term = f t.base in record { base = u.base; path = u.path ++ t.path }
