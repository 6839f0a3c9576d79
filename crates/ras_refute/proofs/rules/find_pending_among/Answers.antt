use Rattle.std.proofs.Common.{ℕ, ◌≤◌, below_more, arith}
use Rattle.ras_refute.specs.Classes.{RespectRulesAt}
use Rattle.ras_refute.proofs.rules.find_pending_among.Goals as goal

pub loop-at-preserved : goal.loop-at-preserved
loop-at-preserved c =
    below_more (λ (k : ℕ). c.args.first ≤ k → RespectRulesAt c.args.schema.now c.args.table.now.entries c.args.classes.now k) c.loop-at.at c.loop-at.invariant (λ _. c.in_default.ensures)

pub returns : goal.returns
returns c = λ i lt from. c.loop-at.invariant i (omega (arith, lt, c.loop-at-test.false)) from
