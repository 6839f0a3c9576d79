use Rattle.ras_refute.proofs.Tables.{adds-fact_of, fixed-kept}
use Rattle.ras_refute.proofs.table.place_fact.Goals as goal

pub returns : goal.returns
returns c =
    adds-fact_of c.args.entries.now c.place_term.new.entries c.place_term-2.new.entries c.args.fact.now c.in_ok-left.left c.in_ok-right.right
    (rw (← c.left.ensures) c.in_ok-left.ensures) (rw (← c.right.ensures) c.in_ok-right.ensures)

pub place_term-requires-2-clause-fixed : goal.place_term-requires-2-clause-fixed
place_term-requires-2-clause-fixed c =
    fixed-kept c.args.schema.now c.args.entries.now c.place_term.new.entries c.requires.fixed c.in_ok-left.ensures.adds.grows
