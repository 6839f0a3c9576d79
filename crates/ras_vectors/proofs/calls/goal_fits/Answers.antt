use Rattle.std.proofs.Common.{refl}
use Rattle.ras_vectors.specs.Hiring.{shape, wrong_owner}
use Rattle.ras_vectors.proofs.DataTests.{fits-passed}
use Rattle.ras_vectors.proofs.calls.goal_fits.Goals as goal

pub returns : goal.returns
returns c = c.fits.ensures.1 (rw (c.requires.shape, c.requires.goal) (fits-passed shape wrong_owner refl))
