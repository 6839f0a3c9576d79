use Rattle.ras_subsumption.specs.Widened.{HasSidesOver}
use Rattle.ras_logic.proofs.AllSteps.{all_step, all_done}
use Rattle.std.proofs.Common.{take}
use Rattle.ras_subsumption.proofs.Adding.{all-kept}
use Rattle.ras_subsumption.proofs.widening.all_sides.Goals as goal

pub loop-literal-preserved : goal.loop-literal-preserved
loop-literal-preserved c =
    let shape = c.args.shape.now in
    let rows = c.args.rows.now in
    let new = c.add_sides.new.literals in
    let i = c.loop-literal.literal-index in (
      c.in_ok-add_sides.ensures.adds.trivial c.loop-literal.invariant.0,
      all_step (HasSidesOver shape rows new) c.args.literals.now i c.literal-item.result c.loop-literal-test.true c.literal-item.is
          (all-kept shape rows c.loop-literal.more new (take i c.args.literals.now) c.in_ok-add_sides.ensures.adds c.loop-literal.invariant.1) c.in_ok-add_sides.ensures.found,
    )

pub returns-clause-sides : goal.returns-clause-sides
returns-clause-sides c =
    all_done (HasSidesOver c.args.shape.now c.args.rows.now c.loop-literal.more) c.args.literals.now c.loop-literal.literal-index c.loop-literal-test.false c.loop-literal.invariant.1
