-- Whether what is named exists, and whether two sides have one sort: tests that compute.
use Rattle.std.specs.Prelude.{Bool, false, ◌&&◌, List, length, nat_eq, nat_lt, Option, Some, None, is_some}
use Rattle.std.specs.List.{list_all}
use Rattle.ras_logic.specs.declared.ids.SortId.{SortId}
use Rattle.ras_logic.specs.declared.ids.FunId.{FunId}
use Rattle.ras_logic.specs.declared.ids.RelId.{RelId}
use Rattle.ras_logic.specs.declared.term.Term.{Term}
use Rattle.ras_logic.specs.declared.literal.Literal.{Literal}
use Rattle.ras_logic.specs.declared.literal.Literal.TheVariants.{Equal}
use Rattle.ras_logic.specs.Schemas.{SchemaParts}
use Rattle.ras_logic.specs.Shapes.{ShapeParts}
use Rattle.ras_logic.specs.Terms.{sort_of_base, sort_of}

-- each function of a path exists
abbrev pub is_known_path : SchemaParts → List FunId → Bool
is_known_path schema path = list_all (λ (f : FunId). nat_lt f.n (length schema.functions)) path

-- each of the relations exists
abbrev pub are_known_relations : ShapeParts → List RelId → Bool
are_known_relations shape rows = list_all (λ (r : RelId). nat_lt r.n (length shape.relations)) rows

-- each of the sorts exists
abbrev pub are_known_sorts : SchemaParts → List SortId → Bool
are_known_sorts schema params = list_all (λ (s : SortId). nat_lt s.n schema.sorts) params

-- there are both sorts, and they are the same
abbrev pub is_one_sort : Option SortId → Option SortId → Bool
is_one_sort None right = false
is_one_sort (Some s) None = false
is_one_sort (Some s) (Some u) = nat_eq s.n u.n

module _ (shape : ShapeParts) (rows : List RelId) (params : List SortId) where
  -- every number of the term names something
  abbrev pub is_known_term : Term → Bool
  is_known_term t = is_some (sort_of_base shape rows params t.base) && is_known_path shape.schema t.path

  abbrev pub is_known_literal : Literal → Bool
  is_known_literal (Equal left right same) = is_known_term left && is_known_term right

  -- both sides have one and the same sort
  abbrev pub is_well_sorted : Literal → Bool
  is_well_sorted (Equal left right same) = is_one_sort (sort_of shape rows params left) (sort_of shape rows params right)
