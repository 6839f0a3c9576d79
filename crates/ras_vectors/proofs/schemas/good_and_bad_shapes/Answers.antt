use Rattle.std.proofs.Common.{refl, ◌<◌, arith, [], ◌∷◌}
use Rattle.std.specs.Prelude.{Contains}
use Rattle.std.proofs.lemmas.List.Elements.{All-nil, All-cons}
use Rattle.ras_vectors.specs.Words.{sort, total}
use Rattle.ras_vectors.specs.Depot as depot
use Rattle.ras_vectors.proofs.DataTests.{is_shape-passed}
use Rattle.ras_vectors.proofs.schemas.good_and_bad_shapes.Goals as goal

pub returns-clause-depot : goal.returns-clause-depot
returns-clause-depot c = is_shape-passed depot.shape refl

pub returns-clause-variable : goal.returns-clause-variable
returns-clause-variable c = λ h. let e : 3 < 3 = h.vars 0 (sort 0) (omega arith) in omega arith

pub returns-clause-column : goal.returns-clause-column
returns-clause-column c = λ h. let e : 3 < 3 = h.columns 0 [] (omega arith) 1 (sort 0) (omega arith) in omega arith

pub returns-clause-schema : goal.returns-clause-schema
returns-clause-schema c = λ h.
    let only = total 0 0 ∷ [] in
    let e : 1 < 1 = h.schema.acyclic (total 0 0) [] (record { known = All-cons (Contains only) (total 0 0) [] (0, omega arith, refl) (All-nil (Contains only)); linked = tt }) in omega arith
