use Rattle.std.proofs.Common.{◌≡◌, ◌<◌, zero, suc, [], refl, arith}
use Rattle.ras_vectors.specs.Words.{total}
use Rattle.ras_vectors.proofs.runs.runs_that_are_no_violation.Goals as goal

pub returns-clause-start : goal.returns-clause-start
returns-clause-start c = λ h. let e : suc zero ≡ zero = h.initial.cells 0 [] (omega arith) 0 [] (omega arith) 0 0 (omega arith) in cc

pub returns-clause-database : goal.returns-clause-database
returns-clause-database c = λ h. let e : 0 < 0 = (h.database.each_table 0 (total 1 0) refl).total refl 0 (omega arith) in omega arith
