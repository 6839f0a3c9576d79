use Rattle.std.proofs.Common.{ℕ, ◌++◌, List, get_or, ◌∙◌, ap}
use Rattle.ras_logic.specs.declared.ids.RelId.{RelId}
use Rattle.ras_logic.specs.declared.literal.Literal.{Literal}
use Rattle.ras_system.specs.Obligations.{undef_row}
use Rattle.ras_obligations.proofs.Numbered.{lists-more}
use Rattle.ras_obligations.proofs.premises.add_undef_cells.Goals as goal

pub loop-row-preserved : goal.loop-row-preserved
loop-row-preserved c =
    let of : ℕ × RelId → List Literal = λ p. undef_row c.args.system.now p.0 p.1 in
    let none : RelId = record { n = 0 } in
    c.in_ok-add_undef_row.ensures
    ∙ ap (λ (ls : List Literal). ls ++ of (c.loop-row.row, get_or c.args.rows.now c.loop-row.row none)) c.loop-row.invariant
    ∙ lists-more of c.args.rows.now c.loop-row.row none c.args.literals.now c.loop-row-test.true
