use Rattle.std.proofs.Common.{◌≡◌, zero, suc, [], refl, arith}
use Rattle.std.specs.Prelude.{Some, None}
use Rattle.ras_vectors.specs.Words.{constant}
use Rattle.ras_vectors.proofs.states.initial_states.Goals as goal

pub returns-clause-set : goal.returns-clause-set
returns-clause-set c = λ h. let e : suc zero ≡ zero = h.vars 0 None refl in cc

pub returns-clause-other_constant : goal.returns-clause-other_constant
returns-clause-other_constant c = λ h. let e : suc zero ≡ suc (suc zero) = h.vars 0 (Some (constant 1)) refl in cc

pub returns-clause-undef_for_a_constant : goal.returns-clause-undef_for_a_constant
returns-clause-undef_for_a_constant c = λ h. let e : zero ≡ suc (suc zero) = h.vars 0 (Some (constant 1)) refl in cc

pub returns-clause-cell : goal.returns-clause-cell
returns-clause-cell c = λ h. let e : suc zero ≡ zero = h.cells 0 [] (omega arith) 2 [] (omega arith) 0 0 (omega arith) in cc
