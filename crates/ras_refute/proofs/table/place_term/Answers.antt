use Rattle.std.proofs.Common.{List, get_or, length, ap, arith}
use Rattle.ras_logic.specs.declared.ids.FunId.{FunId}
use Rattle.ras_refute.proofs.Entries.{prefix_at, adds-base, adds-image, adds-term, at-within}
use Rattle.ras_refute.proofs.table.place_term.Goals as goal

pub loop-function-init : goal.loop-function-init
loop-function-init c = adds-base c.args.entries.now c.place_base.new.entries c.args.term.now c.in_ok-at.at c.in_ok-at.ensures

pub place-requires-clause-fits : goal.place-requires-clause-fits
place-requires-clause-fits c =
    at-within c.loop-function.entries c.loop-function.invariant.adds.table c.loop-function.at (prefix_at c.args.term.now c.loop-function.function-index) c.loop-function.invariant.here

pub loop-function-preserved : goal.loop-function-preserved
loop-function-preserved c =
    adds-image c.args.entries.now c.loop-function.entries c.place.new.entries c.args.term.now c.loop-function.function-index c.loop-function.at c.in_ok-at-2.at
    (get_or c.as_slice-function-items.result.now c.loop-function.function-index (record { n = 0 })) (record { n = 0 })
    (omega (arith, c.loop-function-test.true, ap length c.as_slice-function-items.ensures.items))
    (ap (λ (xs : List FunId). get_or xs c.loop-function.function-index (record { n = 0 })) c.as_slice-function-items.ensures.items)
    c.loop-function.invariant c.in_ok-at-2.ensures

pub returns : goal.returns
returns c =
    adds-term c.args.entries.now c.loop-function.entries c.args.term.now c.loop-function.function-index c.loop-function.at
    (omega (arith, c.loop-function-test.false, c.loop-function.auto.function-index-end, ap length c.as_slice-function-items.ensures.items)) c.loop-function.invariant
