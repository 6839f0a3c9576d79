use Rattle.std.proofs.Common.{◌≡◌, ℕ, ◌++◌, map, take}
use Rattle.std.specs.Prelude.{Option}
use Rattle.std.specs.List.{enumerate_from}
use Rattle.ras_logic.specs.declared.ids.ConstId.{ConstId}
use Rattle.ras_system.specs.Obligations.{initial_literal}
use Rattle.ras_obligations.proofs.premises.add_initial_values.Given as goal

abbrev pub invariant-loop-n : goal.invariant-loop-n
invariant-loop-n l = l.literals ≡ l.fn.literals ++ map (λ (p : ℕ × Option ConstId). initial_literal l.system p.0 p.1) (enumerate_from 0 (take l.n l.system.initial))
