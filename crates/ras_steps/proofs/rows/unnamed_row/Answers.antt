use Rattle.std.proofs.Common.{◌≡◌, ℕ, true, false, List, sym, ◌∙◌, ap}
use Rattle.std.proofs.lemmas.Result.{IfOk-weaker}
use Rattle.ras_logic.specs.declared.values.Values.{Values}
use Rattle.ras_system.specs.declared.bulk.Assign.{Assign}
use Rattle.ras_system.specs.Steps.{takes, unnamed_row, written, with_row, term_for_column}
use Rattle.ras_steps.specs.Sights.{seen}
use Rattle.ras_steps.proofs.RowChanges.{taken_here, left_here}
use Rattle.ras_steps.proofs.rows.unnamed_row.Goals as goal

pub returns-then-takes : goal.returns-then-takes
returns-then-takes c =
    let d = c.args.db.now in
    let v : Values = seen c.args.sight.now in
    let cells = c.args.cells.now in
    let old = c.as_slice-old.ensures.items in
    let b = c.case-item.result in
    let test : takes d v c.args.relation cells b ≡ true = ap (λ (xs : List ℕ). takes d v c.args.relation xs b) (sym old) ∙ sym c.takes.ensures ∙ c.if-takes.true in
    let here = taken_here d v c.args.relation cells c.args.bulk.now c.loop-case.case-index b c.loop-case-test.true c.case-item.is c.loop-case.invariant test in
    IfOk-weaker c.case_row.result (λ (l : List ℕ). l ≡ written d (seen c.beside-more.result) (term_for_column c.as_slice.result.now) c.as_slice-old.result.now)
    (λ (l : List ℕ). l ≡ unnamed_row d v c.args.bulk.now c.args.relation cells)
    (λ l e. e ∙ ap (λ (w : Values). written d w (term_for_column c.as_slice.result.now) c.as_slice-old.result.now) c.beside-more.ensures
    ∙ ap (λ (xs : List ℕ). written d (with_row v xs) (term_for_column c.as_slice.result.now) xs) old
    ∙ ap (λ (a : List Assign). written d (with_row v cells) (term_for_column a) cells) c.as_slice.ensures.items ∙ sym here) c.case_row.ensures

pub loop-case-preserved : goal.loop-case-preserved
loop-case-preserved c =
    let d = c.args.db.now in
    let v : Values = seen c.args.sight.now in
    let cells = c.args.cells.now in
    let b = c.case-item.result in
    let test : takes d v c.args.relation cells b ≡ false = ap (λ (xs : List ℕ). takes d v c.args.relation xs b) (sym c.as_slice-old.ensures.items) ∙ sym c.takes.ensures ∙ c.if-takes.false in
    left_here d v c.args.relation cells c.args.bulk.now c.loop-case.case-index b c.loop-case-test.true c.case-item.is c.loop-case.invariant test
