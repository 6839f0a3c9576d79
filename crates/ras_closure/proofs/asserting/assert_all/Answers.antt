use Rattle.std.proofs.Common.{◌≡◌, ◌≤◌, length, refl}
use Rattle.std.specs.Prelude.{slice_get, Some}
use Rattle.std.proofs.lemmas.Option.{slice_get_read}
use Rattle.ras_closure.proofs.FactsAsserted.{fact-of_table, first-clash, has-more, has-all}
use Rattle.ras_closure.proofs.asserting.assert_all.Goals as goal

pub assert_fact-requires-clause-of_table : goal.assert_fact-requires-clause-of_table
assert_fact-requires-clause-of_table c =
    let at : slice_get c.as_slice-fact-items.result.now c.loop-fact.fact-index ≡ Some c.fact-item.result =
    slice_get_read c.as_slice-fact-items.result.now (length c.as_slice-fact-items.result.now) c.loop-fact.fact-index c.fact-item.result refl c.loop-fact-test.true c.fact-item.is in
    fact-of_table c.args.closure.now.table.shape c.args.problem.now c.requires.fits c.loop-fact.fact-index c.loop-fact.closure c.loop-fact.invariant c.loop-fact.fact-index c.fact-item.result (rw (← c.as_slice-fact-items.ensures.items) at)

pub returns-then-assert_fact-clause-clash : goal.returns-then-assert_fact-clause-clash
returns-then-assert_fact-clause-clash c =
    let at : slice_get c.as_slice-fact-items.result.now c.loop-fact.fact-index ≡ Some c.fact-item.result =
    slice_get_read c.as_slice-fact-items.result.now (length c.as_slice-fact-items.result.now) c.loop-fact.fact-index c.fact-item.result refl c.loop-fact-test.true c.fact-item.is in
    first-clash c.args.closure.now.table.shape c.args.problem.now c.requires.fits c.loop-fact.fact-index c.loop-fact.closure c.assert_fact.new.closure c.fact-item.result c.loop-fact.invariant
    (rw (← c.as_slice-fact-items.ensures.items) at) c.assert_fact.ensures.added (c.assert_fact.ensures.clash.0 c.if-assert_fact.true)

pub loop-fact-preserved : goal.loop-fact-preserved
loop-fact-preserved c =
    let at : slice_get c.as_slice-fact-items.result.now c.loop-fact.fact-index ≡ Some c.fact-item.result =
    slice_get_read c.as_slice-fact-items.result.now (length c.as_slice-fact-items.result.now) c.loop-fact.fact-index c.fact-item.result refl c.loop-fact-test.true c.fact-item.is in
    has-more c.args.closure.now.table.shape c.args.problem.now c.requires.fits c.loop-fact.fact-index c.loop-fact.closure c.assert_fact.new.closure c.fact-item.result c.loop-fact.invariant
    (rw (← c.as_slice-fact-items.ensures.items) at) c.assert_fact.ensures.added (c.assert_fact.ensures.none c.if-assert_fact.false)

pub returns-clause-all : goal.returns-clause-all
returns-clause-all c =
    let ended : length c.args.problem.now.literals ≤ c.loop-fact.fact-index = rw (← c.as_slice-fact-items.ensures.items) c.loop-fact-test.false in
    has-all c.args.closure.now.table.shape c.args.problem.now c.requires.fits c.loop-fact.fact-index c.loop-fact.closure ended c.loop-fact.invariant
