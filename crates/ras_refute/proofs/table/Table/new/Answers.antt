use Rattle.ras_refute.proofs.Tables.{fixed-made, made-table}
use Rattle.ras_refute.proofs.table.Table.new.Goals as goal

pub place_facts-requires-clause-fixed : goal.place_facts-requires-clause-fixed
place_facts-requires-clause-fixed c =
    fixed-made c.args.schema.now c.place_undefs.new.entries c.place_constants.new.entries
    (rw (← c.sort_count-sorts.ensures) c.in_ok-place_undefs.ensures)
    (rw (← c.sort_count-sorts.ensures, ← c.constant_count.ensures) c.in_ok-place_constants.ensures)

pub returns : goal.returns
returns c =
    made-table c.args.schema.now c.args.facts.now c.place_undefs.new.entries c.place_constants.new.entries c.place_facts.new.entries
    c.in_ok-sides.sides (rw (← c.sort_count-sorts.ensures) c.in_ok-place_undefs.ensures)
    (rw (← c.sort_count-sorts.ensures, ← c.constant_count.ensures) c.in_ok-place_constants.ensures) c.in_ok-sides.ensures
