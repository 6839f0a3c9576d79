use Rattle.std.proofs.Common.{◌≡◌, drop}
use Rattle.ras_system.specs.Steps.{unnamed_row as the_unnamed_row}
use Rattle.ras_steps.specs.Sights.{seen}
use Rattle.ras_steps.proofs.rows.unnamed_row.Given as goal

abbrev pub invariant-loop-case : goal.invariant-loop-case
invariant-loop-case l = the_unnamed_row l.db (seen l.sight) l.bulk l.relation l.cells ≡ the_unnamed_row l.db (seen l.sight) (drop l.case-index l.bulk) l.relation l.cells
