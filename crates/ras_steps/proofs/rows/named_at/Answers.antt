use Rattle.std.proofs.Common.{◌≤◌, length, min, sym, arith}
use Rattle.ras_steps.proofs.RowChanges.{named_none}
use Rattle.ras_steps.proofs.rows.named_at.Goals as goal

pub returns : goal.returns
returns c =
    let le : min (length c.args.rows.now) (length c.args.chosen.now) ≤ c.loop-k.k = omega (arith, c.min-k-end.ensures) in
    sym (named_none c.args.rows.now c.args.chosen.now c.args.relation c.args.row c.loop-k.k le c.loop-k.invariant)
