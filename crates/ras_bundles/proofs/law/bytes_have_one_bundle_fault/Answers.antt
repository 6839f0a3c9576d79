use Rattle.ras_bundles.proofs.BundleLaws.{one_fault}
use Rattle.ras_bundles.proofs.law.bytes_have_one_bundle_fault.Goals as goal

pub returns : goal.returns
returns c = one_fault
