use Rattle.std.proofs.Common.{refl, [], ◌∷◌}
use Rattle.ras_vectors.specs.Words.{choice}
use Rattle.ras_vectors.specs.Depot.{stock, move, before_move}
use Rattle.ras_vectors.proofs.StateTests.{may_step-passed}
use Rattle.ras_vectors.proofs.runs.a_step_of_all_kinds.Goals as goal

pub returns-clause-step : goal.returns-clause-step
returns-clause-step c = (move, refl, may_step-passed stock move before_move (choice 0 (4 ∷ 1 ∷ 1 ∷ []) (2 ∷ [])) refl)

pub returns-clause-first_disjunct : goal.returns-clause-first_disjunct
returns-clause-first_disjunct c = (move, refl, may_step-passed stock move before_move (choice 0 (1 ∷ 0 ∷ 4 ∷ []) (2 ∷ [])) refl)
