use Rattle.ras_subsumption.proofs.Adding.{adds-more, below-more, rows-all}
use Rattle.ras_subsumption.proofs.widening.add_term.Goals as goal

pub loop-row-preserved : goal.loop-row-preserved
loop-row-preserved c = (
  adds-more c.args.shape.now c.args.rows.now c.args.literals.now c.loop-row.literals c.add_over-in-loop-row.new.literals c.loop-row.invariant.0 c.in_ok-add_over-2.ensures.adds,
  below-more c.args.shape.now c.args.rows.now c.loop-row.literals c.add_over-in-loop-row.new.literals c.args.term.now c.loop-row.row c.in_ok-add_over-2.ensures.adds c.loop-row.invariant.1
      c.in_ok-add_over-2.ensures.found,
)

pub returns-clause-found : goal.returns-clause-found
returns-clause-found c =
    rows-all c.args.shape.now c.args.rows.now c.loop-row.literals c.args.term.now c.loop-row.row c.loop-row.auto.row c.loop-row-test.false c.loop-row.invariant.1
