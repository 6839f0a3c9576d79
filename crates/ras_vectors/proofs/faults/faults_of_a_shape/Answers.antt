use Rattle.std.proofs.Common.{◌<◌, [], arith}
use Rattle.ras_vectors.specs.Words.{sort}
use Rattle.ras_vectors.proofs.faults.faults_of_a_shape.Goals as goal

pub returns-clause-column_after_variables : goal.returns-clause-column_after_variables
returns-clause-column_after_variables c = λ h. let e : 3 < 3 = h.1 0 (sort 0) (omega arith) in omega arith

pub returns-clause-later_column : goal.returns-clause-later_column
returns-clause-later_column c = λ h. let e : 3 < 3 = h.2.before 0 (sort 0) (omega arith) in omega arith

pub returns-clause-no_column_after_variables : goal.returns-clause-no_column_after_variables
returns-clause-no_column_after_variables c = λ h. let e : 3 < 3 = h.1 0 (sort 0) (omega arith) in omega arith

pub returns-clause-no_column_after_columns : goal.returns-clause-no_column_after_columns
returns-clause-no_column_after_columns c = λ h. let e : 3 < 3 = h.2 1 [] (omega arith) 0 (sort 0) (omega arith) in omega arith

pub returns-clause-some_column : goal.returns-clause-some_column
returns-clause-some_column c = λ h. h.3.bad [] (omega arith)
