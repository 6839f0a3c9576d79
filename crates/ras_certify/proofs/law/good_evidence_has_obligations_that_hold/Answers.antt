use Rattle.ras_certify.proofs.Fitting.{all_held}
use Rattle.ras_certify.proofs.law.good_evidence_has_obligations_that_hold.Goals as goal

pub returns : goal.returns
returns c = λ system formulas trees is good. all_held c.a_preimage_fits.ensures system is formulas trees good
