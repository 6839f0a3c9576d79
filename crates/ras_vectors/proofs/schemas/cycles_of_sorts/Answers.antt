use Rattle.std.proofs.Common.{[], ◌∷◌, refl}
use Rattle.ras_vectors.specs.Words.{total, nullable}
use Rattle.ras_vectors.proofs.DataTests.{is_schema-passed}
use Rattle.ras_vectors.proofs.Cycles.{both_ways, to_itself}
use Rattle.ras_vectors.proofs.schemas.cycles_of_sorts.Goals as goal

pub returns-clause-both_ways : goal.returns-clause-both_ways
returns-clause-both_ways c = both_ways

pub returns-clause-itself : goal.returns-clause-itself
returns-clause-itself c = to_itself

pub returns-clause-two_ways_to_one : goal.returns-clause-two_ways_to_one
returns-clause-two_ways_to_one c = (is_schema-passed (record { sorts = 3; functions = total 0 2 ∷ total 0 2 ∷ nullable 1 2 ∷ []; constants = [] }) refl).acyclic
