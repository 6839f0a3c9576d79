use Rattle.std.proofs.Common.{ℕ, ◌<◌, ◌≡◌, get_or}
use Rattle.std.specs.Prelude.{slice_get, Option, Some}
use Rattle.ras_logic.specs.declared.ids.ConstId.{ConstId}
use Rattle.ras_system.specs.States.{initial_value}
use Rattle.ras_steps.proofs.fitting.vars_are_initial.Given as goal

abbrev pub invariant-loop-n : goal.invariant-loop-n
invariant-loop-n l = (k : ℕ) → k < l.n → (c : Option ConstId) → slice_get l.system.initial k ≡ Some c → get_or l.vars k 0 ≡ initial_value l.db c
