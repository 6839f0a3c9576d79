use Rattle.std.proofs.Common.{◌≡◌, zero, suc, refl, ◌≤◌, arith}
use Rattle.ras_vectors.specs.Words.{sort}
use Rattle.ras_vectors.specs.Depot.{carts}
use Rattle.ras_vectors.proofs.terms.satisfied_problems.Goals as goal

pub returns-clause-other_row : goal.returns-clause-other_row
returns-clause-other_row c = λ h. let e : suc (suc zero) ≡ suc zero = (h.values.each_row 0 carts refl).as_many in cc

pub returns-clause-param_beyond : goal.returns-clause-param_beyond
returns-clause-param_beyond c = λ h. let e : 3 ≤ 2 = h.values.param_values.each 1 (sort 2) refl in omega arith

pub returns-clause-variable_beyond : goal.returns-clause-variable_beyond
returns-clause-variable_beyond c = λ h. let e : 5 ≤ 4 = h.values.vars.each 0 (sort 1) refl in omega arith

pub returns-clause-cell_beyond : goal.returns-clause-cell_beyond
returns-clause-cell_beyond c = λ h. let e : 5 ≤ 4 = (h.values.each_row 1 carts refl).each 0 (sort 1) refl in omega arith
