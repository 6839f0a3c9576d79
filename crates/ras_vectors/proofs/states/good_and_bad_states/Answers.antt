use Rattle.std.proofs.Common.{◌≡◌, ◌≤◌, zero, suc, [], refl, arith}
use Rattle.ras_vectors.specs.Words.{sort}
use Rattle.ras_vectors.specs.Depot.{tasks, carts}
use Rattle.ras_vectors.proofs.states.good_and_bad_states.Goals as goal

pub returns-clause-variable_beyond : goal.returns-clause-variable_beyond
returns-clause-variable_beyond c = λ h. let e : 3 ≤ 2 = h.vars.each 1 (sort 2) refl in omega arith

pub returns-clause-few_cells : goal.returns-clause-few_cells
returns-clause-few_cells c = λ h. let e : suc zero ≡ suc (suc zero) = (h.rows tasks (omega arith) 1 [] (omega arith)).as_many in cc

pub returns-clause-cell_beyond : goal.returns-clause-cell_beyond
returns-clause-cell_beyond c = λ h. let e : 5 ≤ 4 = (h.rows carts (omega arith) 1 [] (omega arith)).each 0 (sort 1) refl in omega arith
