use Rattle.ras_refute.proofs.Choices.{rows-small}
use Rattle.ras_refute.proofs.walk.split_formula.Goals as goal

pub returns-clause-small : goal.returns-clause-small
returns-clause-small c =
    rows-small c.args.rows.now c.rows.result.now c.args.chosen.now c.as_slice.ensures.room (rw (← c.as_slice.ensures.items) (c.are_rows_of.ensures.0 c.if-not-are_rows_of.false))
