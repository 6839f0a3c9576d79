use Rattle.ras_closure.proofs.FactsAsserted.{has-none}
use Rattle.ras_closure.proofs.closure.Closure.of.Goals as goal

pub assert_all-requires-clause-fits : goal.assert_all-requires-clause-fits
assert_all-requires-clause-fits c = rw c.in_ok-closure.ensures.shape c.requires

pub assert_all-requires-clause-none : goal.assert_all-requires-clause-none
assert_all-requires-clause-none c =
    has-none c.args.problem.now c.in_ok-closure.closure c.in_ok-closure.ensures.problem c.in_ok-closure.ensures.no_clash c.in_ok-closure.ensures.none

pub returns-then-assert_all : goal.returns-then-assert_all
returns-then-assert_all c = rw (← c.in_ok-closure.ensures.shape) (rw c.if-assert_all.true at c.assert_all.ensures.clash)

pub returns : goal.returns
returns c = rw (← c.in_ok-closure.ensures.shape) (rw c.if-assert_all.false at c.assert_all.ensures.all)
