use Rattle.std.proofs.Common.{◌≡◌, List, ◌++◌, length, map, take}
use Rattle.std.specs.Prelude.{All}
use Rattle.ras_names.specs.Placed.{Declared as Item}
use Rattle.ras_names.specs.Checks.{declared_texts}
use Rattle.ras_numbering.specs.Numbers.{number_in}
use Rattle.ras_declarations.specs.Naming.{named_checks, IsOneOf}
use Rattle.ras_scope.proofs.Following.{Passed}
use Rattle.ras_declarations.proofs.named.add_all_named.Given as goal

abbrev pub invariant-loop-item : goal.invariant-loop-item
invariant-loop-item g l = record {
  names : l.table.names ≡ l.fn.table.names ++ declared_texts (map g.N.Named.placed (take l.item-index l.items));
  values : l.table.values.items ≡ l.fn.table.values.items ++ map (λ (d : Item). g.T.Numbered.with_number (number_in l.naming.used.now d.of.text)) (map g.N.Named.placed (take l.item-index l.items));
  known : All (IsOneOf l.naming.used.now) (map g.N.Named.placed (take l.item-index l.items));
  passed : (before : List Item) → l.fn.table.names ≡ declared_texts before
      → Passed (length before) (named_checks l.naming.limit (l.naming.above.now ++ l.naming.more.now) l.naming.used.now (before ++ map g.N.Named.placed l.items)) g.N.Named.placed l.items l.item-index;
}
