use Rattle.ras_system.proofs.Backwards.{IsInvariant-safe}
use Rattle.ras_system.proofs.Soundness.{IsGoodSafe-invariant}
use Rattle.ras_system.proofs.law.a_good_evidence_suffices.Goals as goal

pub returns : goal.returns
returns c = λ s formulas trees good none evidence. IsInvariant-safe s formulas good (IsGoodSafe-invariant s formulas trees good none evidence)
