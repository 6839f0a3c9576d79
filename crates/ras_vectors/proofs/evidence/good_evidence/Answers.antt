use Rattle.ras_vectors.proofs.GoodEvidence.{good_hiring, good_still, good_two}
use Rattle.ras_vectors.proofs.evidence.good_evidence.Goals as goal

pub returns : goal.returns
returns c = record { hiring = good_hiring; still = good_still; two = good_two }
