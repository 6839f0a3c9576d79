use Rattle.std.proofs.Common.{refl, ◌<◌, arith, [], ◌∷◌}
use Rattle.ras_vectors.specs.Words.{sort, relation, problem, same, apart}
use Rattle.ras_vectors.specs.Depot.{shape, split_up, tasks, parcel, picked, shelf_of, hall_of, hall}
use Rattle.ras_vectors.proofs.DataTests.{fits-passed}
use Rattle.ras_vectors.proofs.terms.formulas_that_fit.Goals as goal

pub returns-clause-cube : goal.returns-clause-cube
returns-clause-cube c = fits-passed shape split_up refl

pub returns-clause-params : goal.returns-clause-params
returns-clause-params c = fits-passed shape (problem (tasks ∷ []) (sort 0 ∷ []) (same picked (parcel 0) ∷ apart (hall_of (shelf_of picked)) hall ∷ [])) refl

pub returns-clause-relation : goal.returns-clause-relation
returns-clause-relation c = λ h. let e : 2 < 2 = h.rows 0 (relation 0) (omega arith) in omega arith

pub returns-clause-param : goal.returns-clause-param
returns-clause-param c = λ h. let e : 3 < 3 = h.params 0 (sort 0) (omega arith) in omega arith
