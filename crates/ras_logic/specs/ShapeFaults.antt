-- The first fault of what is no shape.
use Rattle.std.specs.Prelude.{◌<◌, ◌≤◌, List, length, All, Any, flat_map}
use Rattle.ras_logic.specs.declared.ids.SortId.{SortId}
use Rattle.ras_logic.specs.declared.kind.Kind.TheVariants.{Variable, Relation, Column}
use Rattle.ras_logic.specs.declared.shape_fault.ShapeFault.{ShapeFault}
use Rattle.ras_logic.specs.declared.shape_fault.ShapeFault.TheVariants.{TooMany, BadSort, NoColumn}
use Rattle.ras_logic.specs.Schemas.{IsSort}
use Rattle.ras_logic.specs.Places.{IsFirstBad}
use Rattle.ras_logic.specs.Shapes.{ShapeParts}

-- at most 64 variables and 16 relations, each of at most 32 columns
pub record HasShapeLimits (s : ShapeParts) : Type 0 where
  pub vars : length s.vars ≤ 64
  pub relations : length s.relations ≤ 16
  pub columns : All (λ (columns : List SortId). length columns ≤ 32) s.relations

-- the columns of all relations in order
abbrev pub all_columns : List (List SortId) → List SortId
all_columns relations = flat_map (λ (columns : List SortId). columns) relations

-- a count beyond its limit, then a sort that does not exist, then a relation without columns
abbrev pub IsShapeFault : ShapeParts → ShapeFault → Type 0
IsShapeFault s (TooMany Variable) = 64 < length s.vars
IsShapeFault s (TooMany Relation) = (length s.vars ≤ 64) × (16 < length s.relations)
IsShapeFault s (TooMany Column) =
    (length s.vars ≤ 64) × (length s.relations ≤ 16) × Any (λ (columns : List SortId). 32 < length columns) s.relations
IsShapeFault s (TooMany kind) = ⊥
IsShapeFault s (BadSort Variable place) = HasShapeLimits s × IsFirstBad (IsSort s.schema.sorts) s.vars place
IsShapeFault s (BadSort Column place) =
    HasShapeLimits s × All (IsSort s.schema.sorts) s.vars × IsFirstBad (IsSort s.schema.sorts) (all_columns s.relations) place
IsShapeFault s (BadSort kind place) = ⊥
IsShapeFault s (NoColumn r) =
    HasShapeLimits s × All (IsSort s.schema.sorts) s.vars × All (All (IsSort s.schema.sorts)) s.relations
    × IsFirstBad (λ (columns : List SortId). 0 < length columns) s.relations r.n
