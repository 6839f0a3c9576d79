use Rattle.std.proofs.Common.{◌<◌, arith}
use Rattle.ras_vectors.specs.Words.{total}
use Rattle.ras_vectors.proofs.faults.sorts_of_a_schema_that_do_not_exist.Goals as goal

pub returns-clause-later_function : goal.returns-clause-later_function
returns-clause-later_function c = λ h. let e : 2 < 2 = (h.1.before 1 (total 0 0) (omega arith)).1 in omega arith

pub returns-clause-good_function : goal.returns-clause-good_function
returns-clause-good_function c = λ h. h.1.bad (total 0 0) (omega arith, omega arith)

pub returns-clause-constant_after_functions : goal.returns-clause-constant_after_functions
returns-clause-constant_after_functions c = λ h. let e : 2 < 2 = (h.1 0 (total 0 0) (omega arith)).1 in omega arith
