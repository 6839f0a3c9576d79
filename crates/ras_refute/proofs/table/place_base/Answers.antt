use Rattle.ras_refute.proofs.Tables.{adds-fixed}
use Rattle.ras_refute.proofs.table.place_base.Goals as goal

pub returns-in-Some : goal.returns-in-Some
returns-in-Some c =
    adds-fixed c.args.schema.now c.args.entries.now c.requires.table c.requires.fixed c.args.base c.in-Some.number c.in-Some.ensures
