use Rattle.std.proofs.Common.{◌∷◌, [], arith, length-append}
use Rattle.ras_closure.specs.Elements.{number}
use Rattle.ras_closure.specs.Spares.{sized}
use Rattle.ras_closure.proofs.FoundImages.{tables-more}
use Rattle.ras_closure.proofs.function_tables.tables.Goals as goal

pub loop-k-preserved : goal.loop-k-preserved
loop-k-preserved c = record {
  long = rw c.in_ok-push.ensures.ok (omega (arith, length-append c.loop-k.tables (c.in_ok-table_of.field-0 ∷ []), c.loop-k.invariant.long));
  tables = rw c.in_ok-push.ensures.ok
      (tables-more c.args.table.now.shape.schema c.args.table.now.terms (number c.args.elements.now.numbers.items) (sized c.args.elements.now.counts.items c.args.spares.now) c.loop-k.tables
      c.in_ok-table_of.field-0 c.loop-k.k c.function-decl.result c.loop-k.invariant.long c.loop-k.invariant.tables c.function-decl.ensures.known c.in_ok-table_of.ensures);
}
