use Rattle.ras_submit.proofs.Progress.{goes_on-refl, goes_on-trans}
use Rattle.ras_submit.proofs.law.going_on_composes.Goals as goal

pub returns : goal.returns
returns c = record { itself = goes_on-refl; two = goes_on-trans }
