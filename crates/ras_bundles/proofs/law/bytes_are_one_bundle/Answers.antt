use Rattle.ras_bundles.proofs.BundleLaws.{one_bundle}
use Rattle.ras_bundles.proofs.law.bytes_are_one_bundle.Goals as goal

pub returns : goal.returns
returns c = one_bundle
