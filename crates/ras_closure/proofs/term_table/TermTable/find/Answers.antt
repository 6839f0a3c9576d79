use Rattle.std.proofs.Common.{List, length, get_or, ap, arith}
use Rattle.ras_logic.specs.declared.ids.FunId.{FunId}
use Rattle.ras_closure.proofs.Finding.{base-missing, image-missing, image-found, whole-found}
use Rattle.ras_closure.proofs.term_table.TermTable.find.Goals as goal

pub returns-in_err-at : goal.returns-in_err-at
returns-in_err-at c = rw c.from_residual.ensures (base-missing c.args.self.now c.known.ensures c.args.term.now c.in_err-at.ensures)

pub returns-in_err-at-2 : goal.returns-in_err-at-2
returns-in_err-at-2 c =
    rw c.from_residual-in_err-at-2.ensures
    (image-missing c.args.self.now c.known.ensures c.args.term.now c.loop-function.function-index c.loop-function.at
    (get_or c.as_slice-function-items.result.now c.loop-function.function-index (record { n = 0 })) (record { n = 0 })
    (omega (arith, c.loop-function-test.true, ap length c.as_slice-function-items.ensures.items))
    (ap (λ (xs : List FunId). get_or xs c.loop-function.function-index (record { n = 0 })) c.as_slice-function-items.ensures.items)
    c.loop-function.invariant c.in_err-at-2.ensures)

pub loop-function-preserved : goal.loop-function-preserved
loop-function-preserved c =
    image-found c.args.self.now c.known.ensures c.args.term.now c.loop-function.function-index c.loop-function.at c.in_ok-at-2.at
    (get_or c.as_slice-function-items.result.now c.loop-function.function-index (record { n = 0 })) (record { n = 0 })
    (omega (arith, c.loop-function-test.true, ap length c.as_slice-function-items.ensures.items))
    (ap (λ (xs : List FunId). get_or xs c.loop-function.function-index (record { n = 0 })) c.as_slice-function-items.ensures.items)
    c.loop-function.invariant c.in_ok-at-2.ensures

pub returns : goal.returns
returns c =
    whole-found c.args.self.now c.known.ensures c.args.term.now c.loop-function.function-index c.loop-function.at
    (omega (arith, c.loop-function-test.false, c.loop-function.auto.function-index-end, ap length c.as_slice-function-items.ensures.items))
    c.loop-function.invariant
