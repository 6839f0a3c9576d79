use Rattle.ras_vectors.specs.Words.{same}
use Rattle.ras_vectors.specs.Depot.{place}
use Rattle.ras_vectors.proofs.faults.literals_of_no_cube.Goals as goal

pub returns-clause-none : goal.returns-clause-none
returns-clause-none c = λ h. h.bad (same place place) (tt, tt)
