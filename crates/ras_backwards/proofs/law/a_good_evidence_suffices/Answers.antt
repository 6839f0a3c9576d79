use Rattle.ras_system.proofs.Backwards.{IsInvariant-safe}
use Rattle.ras_backwards.proofs.GoodEvidence.{good-invariant}
use Rattle.ras_backwards.proofs.law.a_good_evidence_suffices.Goals as goal

pub returns : goal.returns
returns c = λ system formulas trees good evidence. IsInvariant-safe system formulas good (good-invariant system formulas trees good evidence)
