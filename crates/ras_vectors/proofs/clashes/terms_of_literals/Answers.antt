use Rattle.std.proofs.Common.{refl, arith, [], ◌∷◌}
use Rattle.ras_logic.specs.Clashes.{a_constant, an_undef}
use Rattle.ras_vectors.specs.Words.{sort, function, constant, same}
use Rattle.ras_vectors.specs.Depot.{schema, place, shelf, picked, shelf_of, hall_of, no_hall}
use Rattle.ras_vectors.proofs.Facts.{side, part_of_side}
use Rattle.ras_vectors.proofs.clashes.terms_of_literals.Goals as goal

pub returns-clause-side : goal.returns-clause-side
returns-clause-side c = side schema (same place (shelf 0) ∷ []) 1 (shelf 0) refl

pub returns-clause-image : goal.returns-clause-image
returns-clause-image c = side schema (same (hall_of (shelf_of picked)) no_hall ∷ []) 0 (hall_of (shelf_of picked)) refl

pub returns-clause-argument : goal.returns-clause-argument
returns-clause-argument c = part_of_side schema (same (hall_of (shelf_of picked)) no_hall ∷ []) 0 (hall_of (shelf_of picked)) (shelf_of picked) (function 1 ∷ []) refl refl refl

pub returns-clause-base : goal.returns-clause-base
returns-clause-base c = part_of_side schema (same (hall_of (shelf_of picked)) no_hall ∷ []) 0 (hall_of (shelf_of picked)) picked (function 0 ∷ function 1 ∷ []) refl refl refl

pub returns-clause-constant : goal.returns-clause-constant
returns-clause-constant c = a_constant (constant 1) (omega arith)

pub returns-clause-undef : goal.returns-clause-undef
returns-clause-undef c = an_undef (sort 2) (omega arith)
