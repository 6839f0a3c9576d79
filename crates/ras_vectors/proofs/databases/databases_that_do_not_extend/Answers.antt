use Rattle.std.proofs.Common.{◌≡◌, ◌≤◌, suc, zero, arith}
use Rattle.std.specs.Prelude.{Some, None}
use Rattle.ras_vectors.proofs.databases.databases_that_do_not_extend.Goals as goal

pub returns-clause-fewer_users : goal.returns-clause-fewer_users
returns-clause-fewer_users c = λ h. let e : 2 ≤ 1 = h.sizes 0 in omega arith

pub returns-clause-other_owner : goal.returns-clause-other_owner
returns-clause-other_owner c = λ h. let e : Some (suc (suc zero)) ≡ Some (suc zero) = h.tables 0 0 (omega arith) in cc

pub returns-clause-no_job : goal.returns-clause-no_job
returns-clause-no_job c = λ h. let e : None ≡ Some (suc zero) = h.tables 0 0 (omega arith) in cc

pub returns-clause-image_of_the_third : goal.returns-clause-image_of_the_third
returns-clause-image_of_the_third c = λ h. let e : Some (suc zero) ≡ Some zero = h.tables 0 2 (omega arith) in cc

pub returns-clause-second_function : goal.returns-clause-second_function
returns-clause-second_function c = λ h. let e : Some (suc zero) ≡ Some (suc (suc zero)) = h.tables 1 3 (omega arith) in cc
