use Rattle.ras_backwards.proofs.GoodEvidence.{good-invariant}
use Rattle.ras_backwards.proofs.law.a_good_evidence_has_an_invariant.Goals as goal

pub returns : goal.returns
returns c = good-invariant
