use Rattle.std.proofs.Common.{◌≡◌, arith, [], ◌∷◌}
use Rattle.ras_vectors.specs.Words.{sort, cube, same}
use Rattle.ras_vectors.specs.Depot.{place}
use Rattle.ras_vectors.proofs.Refused.{two_sorts}
use Rattle.ras_vectors.proofs.systems.goals_and_shapes_that_are_none.Goals as goal

pub returns-clause-sides : goal.returns-clause-sides
returns-clause-sides c = λ h. let f = (h.goals 1 (cube [] []) (omega arith)).literals 0 (same place place) (omega arith) in two_sorts 1 2 (λ e. cc) f.0 f.1 f.2

pub returns-clause-param : goal.returns-clause-param
returns-clause-param c = λ h. let e : sort 0 ∷ [] ≡ [] = (h.cubes 1 (cube [] []) (omega arith)).none in cc
