use Rattle.ras_bundles.proofs.BundleLaws.{one_front}
use Rattle.ras_bundles.proofs.law.bytes_begin_with_one_system.Goals as goal

pub returns : goal.returns
returns c = one_front
