use Rattle.std.proofs.Common.{◌≡◌, ◌++◌, map, take}
use Rattle.std.specs.Prelude.{All}
use Rattle.ras_names.specs.Placed as placed
use Rattle.ras_names.specs.Placed.{columns}
use Rattle.ras_names.specs.Checks.{declared_texts}
use Rattle.ras_names.specs.FileChecks.{above_relations, relation_checks}
use Rattle.ras_numbering.specs.FileValues.{relation_value}
use Rattle.ras_scope.specs.Placing.{placed_relation, placed_file}
use Rattle.ras_scope.specs.Agreeing.{names_of_columns, sorts_of_columns}
use Rattle.ras_declarations.specs.Declaring.{AreOfSort}
use Rattle.ras_scope.proofs.Following.{Passed}
use Rattle.ras_declarations.proofs.declarations.read_relations.Given as goal

abbrev pub invariant-loop-relation : goal.invariant-loop-relation
invariant-loop-relation l = record {
  names : l.relations ≡ map (λ (r : placed.Relation). r.name.text) (take l.relation-index (map placed_relation l.file.relations.items));
  column_names : names_of_columns l.columns.items ≡ map (λ (r : placed.Relation). declared_texts (columns r)) (take l.relation-index (map placed_relation l.file.relations.items));
  values : sorts_of_columns l.columns.items ≡ map (relation_value (placed_file l.file)) (take l.relation-index (map placed_relation l.file.relations.items));
  sort_texts : All (AreOfSort (placed_file l.file)) (take l.relation-index (map placed_relation l.file.relations.items));
  shared : l.shared ≡ above_relations (placed_file l.file) ++ map (λ (r : placed.Relation). r.name.text) (take l.relation-index (map placed_relation l.file.relations.items));
  passed : Passed 0 (relation_checks (placed_file l.file)) placed_relation l.file.relations.items l.relation-index;
}
