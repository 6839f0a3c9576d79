use Rattle.ras_bundles.proofs.LengthLaws.{as_many}
use Rattle.ras_bundles.proofs.law.each_line_has_its_checks.Goals as goal

pub returns : goal.returns
returns c = as_many
