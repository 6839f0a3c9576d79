use Rattle.std.proofs.Common.{◌≡◌, ◌<◌, sym, ◌∙◌, ap, subst, arith, length}
use Rattle.ras_split.specs.Standing.{AreGapsTo}
use Rattle.ras_split.proofs.Filling.{gaps-start, gaps-on}
use Rattle.ras_split.proofs.standing.gaps_of.Goals as goal

pub loop-i-preserved : goal.loop-i-preserved
loop-i-preserved c = gaps-on c.args.closure.now c.args.terms.now c.loop-i.i c.loop-i.gaps.items c.push_gap.new.gaps.items c.in_ok-gap.gap c.loop-i.invariant c.in_ok-gap.ensures c.in_ok-push_gap.ensures
