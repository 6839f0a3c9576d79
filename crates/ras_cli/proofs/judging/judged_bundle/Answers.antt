use Rattle.std.proofs.Common.{inr, rules}
use Rattle.ras_bundles.specs.declared.fault.BundleError.TheVariants.{System}
use Rattle.ras_check.proofs.CompleteTexts.{writable_complete}
use Rattle.ras_cli.specs.Outcomes.{OfBundleError}
use Rattle.ras_cli.proofs.judging.judged_bundle.Goals as goal

pub judged-requires : goal.judged-requires
judged-requires c = writable_complete c.in-Ok.bundle.evidence c.in-Ok.ensures.bundle.writable.0

pub returns-in-Err-System : goal.returns-in-Err-System
returns-in-Err-System c =
    let of : OfBundleError (System c.in-Err-System.line c.in-Err-System.kind) c.of_system_fault.result = rw (← c.in-Err-System.line-is, ← c.in-Err-System.kind-is) c.of_system_fault.ensures in
    inr (System c.in-Err-System.line c.in-Err-System.kind, search rules, of)
