use Rattle.std.proofs.Common.{◌≡◌, ◌<◌, ◌≤◌, suc, zero, refl, arith}
use Rattle.ras_vectors.specs.Words.{sort, total}
use Rattle.ras_vectors.proofs.databases.no_databases.Goals as goal

pub returns-clause-short_table : goal.returns-clause-short_table
returns-clause-short_table c = λ h. let e : suc zero ≡ suc (suc zero) = (h.each_table 0 (total 1 0) refl).as_long in cc

pub returns-clause-long_table : goal.returns-clause-long_table
returns-clause-long_table c = λ h. let e : suc (suc zero) ≡ suc zero = (h.each_table 0 (total 1 0) refl).as_long in cc

pub returns-clause-image_beyond : goal.returns-clause-image_beyond
returns-clause-image_beyond c = λ h. let e : 3 ≤ 2 = (h.each_table 0 (total 1 0) refl).in_target 1 (omega arith) in omega arith

pub returns-clause-undef_image : goal.returns-clause-undef_image
returns-clause-undef_image c = λ h. let e : 0 < 0 = (h.each_table 0 (total 1 0) refl).total refl 1 (omega arith) in omega arith

pub returns-clause-undef_constant : goal.returns-clause-undef_constant
returns-clause-undef_constant c = λ h. let e : 0 < 0 = (h.each_constant 1 (sort 0) refl).0 in omega arith

pub returns-clause-constant_beyond : goal.returns-clause-constant_beyond
returns-clause-constant_beyond c = λ h. let e : 4 ≤ 3 = (h.each_constant 2 (sort 0) refl).1 in omega arith

pub returns-clause-equal_constants : goal.returns-clause-equal_constants
returns-clause-equal_constants c = λ h. let e : zero ≡ suc (suc zero) = h.apart 0 2 (sort 0) refl refl refl in cc
