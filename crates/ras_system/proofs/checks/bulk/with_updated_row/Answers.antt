use Rattle.ras_system.proofs.UpdatedRow.{updated_row}
use Rattle.ras_system.proofs.checks.bulk.with_updated_row.Goals as goal

pub returns : goal.returns
returns c = updated_row c.args.rows.now c.copy_from_slice.new.self c.args.relation c.requires c.copy_from_slice.ensures.after
