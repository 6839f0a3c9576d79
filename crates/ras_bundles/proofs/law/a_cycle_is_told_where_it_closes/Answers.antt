use Rattle.ras_bundles.proofs.Walks.{cycle_told}
use Rattle.ras_bundles.proofs.law.a_cycle_is_told_where_it_closes.Goals as goal

pub returns : goal.returns
returns c = cycle_told
