use Rattle.ras_bundles.proofs.BundleLaws.{never_fault}
use Rattle.ras_bundles.proofs.law.a_bundle_has_no_fault.Goals as goal

pub returns : goal.returns
returns c = never_fault
