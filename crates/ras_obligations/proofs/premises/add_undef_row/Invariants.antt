use Rattle.std.proofs.Common.{◌≡◌, ℕ, ◌++◌, map, take}
use Rattle.std.specs.List.{enumerate_from}
use Rattle.ras_logic.specs.declared.ids.SortId.{SortId}
use Rattle.ras_system.specs.Obligations.{undef_literal}
use Rattle.ras_obligations.proofs.premises.add_undef_row.Given as goal

abbrev pub invariant-loop-column : goal.invariant-loop-column
invariant-loop-column l = l.literals ≡ l.fn.literals ++ map (λ (p : ℕ × SortId). undef_literal l.row p.0 p.1) (enumerate_from 0 (take l.column l.columns))
