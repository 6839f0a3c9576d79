use Rattle.std.proofs.Common.{◌≡◌, ℕ, ◌++◌, take}
use Rattle.std.specs.Prelude.{flat_map}
use Rattle.std.specs.List.{enumerate_from}
use Rattle.ras_logic.specs.declared.ids.RelId.{RelId}
use Rattle.ras_system.specs.Obligations.{undef_row}
use Rattle.ras_obligations.proofs.premises.add_undef_cells.Given as goal

abbrev pub invariant-loop-row : goal.invariant-loop-row
invariant-loop-row l = l.literals ≡ l.fn.literals ++ flat_map (λ (p : ℕ × RelId). undef_row l.system p.0 p.1) (enumerate_from 0 (take l.row l.rows))
