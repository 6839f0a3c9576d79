use Rattle.ras_concrete.proofs.AlongChains.{never-ends, next-fits, next-leads, one-more, all-followed}
use Rattle.ras_concrete.proofs.concretising.concretise.Goals as goal

pub unreachable-requires : goal.unreachable-requires
unreachable-requires c =
    never-ends c.args.system.now c.known.ensures.system c.requires.from c.args.chain.now c.requires.chain c.loop-at.at _ c.loop-at.auto.at c.loop-at-test.true c.in_default.is

pub lead-requires-clause-fits : goal.lead-requires-clause-fits
lead-requires-clause-fits c =
    next-fits c.args.system.now c.known.ensures.system c.requires.from c.args.chain.now c.requires.chain c.loop-at.at _ c.get.result.now c.loop-at-test.true c.get.ensures

pub lead-requires-clause-leads : goal.lead-requires-clause-leads
lead-requires-clause-leads c =
    next-leads c.args.system.now c.known.ensures.system c.requires.from c.args.chain.now c.requires.chain c.args.witness c.loop-at.at c.loop-at.db c.loop-at.state c.in_ok-start.start c.loop-at.choices
    c.loop-at.invariant c.loop-at.auto.at _ _ c.in-Some.transition c.get.result.now c.loop-at-test.true c.in-Some.is c.get.ensures

pub loop-at-preserved : goal.loop-at-preserved
loop-at-preserved c =
    one-more c.args.system.now c.known.ensures.system c.requires.from c.args.chain.now c.requires.chain c.args.witness c.loop-at.at c.loop-at.db c.loop-at.state c.in_ok-start.start c.loop-at.choices
    c.loop-at.invariant c.loop-at.auto.at c.extensions_compose.ensures.two c.extensions_compose.ensures.itself c.requires.state.state.state _ _ c.in-Some.transition c.get.result.now
    c.in_ok-led.led c.push.new.self c.loop-at-test.true c.in-Some.is c.get.ensures c.in_ok-led.ensures c.in_ok-push.ensures.ok

pub returns : goal.returns
returns c =
    all-followed c.args.system.now c.known.ensures.system c.requires.from c.args.chain.now c.requires.chain c.args.witness c.loop-at.at c.loop-at.db c.loop-at.state c.in_ok-start.start c.loop-at.choices
    c.loop-at.invariant c.loop-at.auto.at c.loop-at-test.false c.loop-at.auto.at-end
