-- What a shape is: a schema with the artifact variables and relations over it.
use Rattle.std.specs.Prelude.{◌<◌, List, length, slice_get, Option, All}
use Rattle.ras_logic.specs.declared.ids.SortId.{SortId}
use Rattle.ras_logic.specs.declared.ids.RelId.{RelId}
use Rattle.ras_logic.specs.Schemas.{SchemaParts, IsSort, IsSchema}

-- a schema, the sort of each artifact variable, and the sorts of the columns of each artifact relation
pub record ShapeParts : Type 0 where
  pub schema : SchemaParts
  pub vars : List SortId
  pub relations : List (List SortId)

-- a shape: the sorts of variables and columns exist, and every relation has a column
pub record IsShape (shape : ShapeParts) : Type 0 where
  pub schema : IsSchema shape.schema
  pub vars : All (IsSort shape.schema.sorts) shape.vars
  pub columns : All (All (IsSort shape.schema.sorts)) shape.relations
  pub some_column : All (λ (columns : List SortId). 0 < length columns) shape.relations

-- there is such a relation
abbrev pub IsRelation : ShapeParts → RelId → Type 0
IsRelation shape r = r.n < length shape.relations

-- the columns of a relation, if there is one of that number
abbrev pub columns_of : ShapeParts → RelId → Option (List SortId)
columns_of shape r = slice_get shape.relations r.n
