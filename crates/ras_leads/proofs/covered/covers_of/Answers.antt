use Rattle.std.proofs.Common.{◌≤◌, length, sym, ◌∙◌, ap, subst, arith}
use Rattle.std.proofs.lemmas.Iterator.Adapters.{YieldsList-from_vec}
use Rattle.std.proofs.lemmas.Iterator.Consumers.{YieldsList-turn}
use Rattle.ras_logic.specs.Formulas.{Fits}
use Rattle.ras_leads.proofs.Counts.{counts-start, counts-on}
use Rattle.ras_leads.proofs.Gathers.{gathered-start, gathered-on}
use Rattle.ras_leads.proofs.covered.covers_of.Goals as goal

pub loop-problem-init : goal.loop-problem-init
loop-problem-init c =
    (rw c.new-cubes.ensures (gathered-start c.args.shape.now), counts-start c.args.shape.now.schema c.args.count.now.n (omega arith), omega arith)

pub open_cover-requires : goal.open_cover-requires
open_cover-requires c =
    let gives = c.into_iter-problem-iterator.ensures.into_iter_gives in
    let items = c.into_vec-problem-items.ensures.items in
    let t = YieldsList-turn (YieldsList-from_vec c.args.problems (gives.0 ∙ items) (omega (arith, gives.1, c.into_vec-problem-items.result.ok.0, ap length items))) c.loop-problem.yielded
    c.loop-problem.problem-iterator c.loop-problem.yielded_by c.next.result c.next.new.self c.in-Some.problem c.in-Some.is c.next.ensures.steps in
    subst (Fits c.args.shape.now) (sym t.1) (c.requires (length c.loop-problem.yielded) c.in-Some.problem t.0)

pub loop-problem-preserved : goal.loop-problem-preserved
loop-problem-preserved c =
    let so_far = c.loop-problem.invariant in
    let before : c.args.count.now.n ≤ c.loop-problem.count.n = so_far.2 in
    let rises : c.loop-problem.count.n ≤ c.open_cover.new.count.n = c.in_ok-cover.ensures.rises in (
      gathered-on c.args.shape.now c.loop-problem.yielded c.in-Some.problem c.loop-problem.cubes c.in_ok-cover.cover c.gather.new.cubes so_far.0 c.in_ok-cover.ensures.cover c.in_ok-gather.ensures,
      counts-on c.args.shape.now.schema c.loop-problem.yielded c.in-Some.problem c.args.count.now.n c.loop-problem.count.n c.open_cover.new.count.n so_far.1 c.in_ok-cover.ensures.count,
      omega (arith, before, rises),
    )
