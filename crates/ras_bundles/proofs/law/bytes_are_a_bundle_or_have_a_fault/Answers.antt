use Rattle.ras_bundles.proofs.BundleLaws.{bundle_or_fault}
use Rattle.ras_bundles.proofs.law.bytes_are_a_bundle_or_have_a_fault.Goals as goal

pub returns : goal.returns
returns c = bundle_or_fault
