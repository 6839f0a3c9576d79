use Rattle.ras_concrete_tests.specs.Backwards.{IsSomeChain}
use Rattle.ras_concrete_tests.proofs.chaining.chain_back.Given as goal

abbrev pub invariant-loop-lead : goal.invariant-loop-lead
invariant-loop-lead l = IsSomeChain l.system l.links.items
