use Rattle.std.proofs.Common.{◌∙◌, arith}
use Rattle.ras_refute.proofs.Soundness.{due-together, united-sound}
use Rattle.ras_refute.proofs.rules.close.Goals as goal

pub loop-pending-preserved : goal.loop-pending-preserved
loop-pending-preserved c =
    let inv = c.loop-pending.invariant.partial in
    let pair = c.in-Some.pending.pair in
    let due = c.in-Some.ensures.1 in
    record {
      first = c.in-Some.ensures.0;
      partial = record {
        table = inv.table;
        as_many = c.unite.ensures.as_many ∙ inv.as_many;
        low = λ i lt. omega (arith, c.unite.ensures.lower i (rw inv.as_many lt), inv.low i lt);
        sound = united-sound c.args.schema.now c.args.facts.now c.args.table.now inv.table c.loop-pending.classes c.unite.new.classes pair.left pair.right inv.as_many due.left due.right inv.sound
            (due-together c.args.schema.now c.args.facts.now c.args.table.now inv.table c.known.ensures.schema c.loop-pending.classes inv.sound pair.left pair.right due.due) c.unite.ensures;
      };
    }
