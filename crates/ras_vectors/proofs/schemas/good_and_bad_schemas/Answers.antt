use Rattle.std.proofs.Common.{refl, ◌<◌, arith}
use Rattle.ras_vectors.specs.Words.{sort, total}
use Rattle.ras_vectors.specs.Depot as depot
use Rattle.ras_vectors.proofs.DataTests.{is_schema-passed}
use Rattle.ras_vectors.proofs.Cycles.{both_ways}
use Rattle.ras_vectors.proofs.schemas.good_and_bad_schemas.Goals as goal

pub returns-clause-depot : goal.returns-clause-depot
returns-clause-depot c = is_schema-passed depot.schema refl

pub returns-clause-source : goal.returns-clause-source
returns-clause-source c = λ h. let e : 2 < 2 = (h.functions 0 (total 0 0) (omega arith)).0 in omega arith

pub returns-clause-target : goal.returns-clause-target
returns-clause-target c = λ h. let e : 2 < 2 = (h.functions 0 (total 0 0) (omega arith)).1 in omega arith

pub returns-clause-constant : goal.returns-clause-constant
returns-clause-constant c = λ h. let e : 2 < 2 = h.constants 1 (sort 0) (omega arith) in omega arith

pub returns-clause-cycle : goal.returns-clause-cycle
returns-clause-cycle c = λ h. both_ways h.acyclic
