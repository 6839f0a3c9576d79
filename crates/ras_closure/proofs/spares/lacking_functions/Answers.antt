use Rattle.std.proofs.Common.{◌∷◌, [], arith, length-append}
use Rattle.ras_closure.proofs.Gaps.{lacking-more}
use Rattle.ras_closure.proofs.spares.lacking_functions.Goals as goal

pub loop-k-preserved : goal.loop-k-preserved
loop-k-preserved c = record {
  long = rw c.in_ok-push.ensures.items (omega (arith, length-append c.loop-k.lacking.items (c.in_ok-lacks.lacks ∷ []), c.loop-k.invariant.long));
  lacking = rw c.in_ok-push.ensures.items
      (lacking-more c.args.table.now c.args.elements.now.numbers.items c.args.elements.now.counts.items c.loop-k.lacking.items c.in_ok-lacks.lacks c.loop-k.k c.function-decl.result
      c.loop-k.invariant.long c.loop-k.invariant.lacking c.function-decl.ensures.known c.in_ok-lacks.ensures);
}
