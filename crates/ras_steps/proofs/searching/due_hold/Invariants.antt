use Rattle.std.proofs.Common.{◌≡◌, [], length, take, All}
use Rattle.std.specs.Prelude.{IsTrue}
use Rattle.ras_logic.specs.declared.literal.Literal.{Literal}
use Rattle.ras_logic.specs.Truth.{holds}
use Rattle.ras_system.specs.States.{values_at}
use Rattle.ras_steps.specs.Searching.{due_at}
use Rattle.ras_steps.proofs.searching.due_hold.Given as goal

abbrev pub invariant-loop-literal : goal.invariant-loop-literal
invariant-loop-literal l =
    All (λ (x : Literal). due_at l.rows x ≡ length l.chosen → IsTrue (holds l.db (values_at l.state l.rows l.chosen []) x)) (take l.literal-index l.literals)
