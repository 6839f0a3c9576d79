use Rattle.std.proofs.Common.{List, sym, subst, All}
use Rattle.ras_logic.specs.declared.problem.Problem.{Problem}
use Rattle.ras_system.specs.Obligations.{obligations}
use Rattle.ras_certify.specs.Holding.{ObligationHolds}
use Rattle.ras_certify_tests.proofs.tests.trees_for.Goals as goal

pub certify-requires-clause-hold : goal.certify-requires-clause-hold
certify-requires-clause-hold c =
    subst (λ (fs : List Problem). All (ObligationHolds c.args.system.now.shape) (obligations c.args.system.now fs)) (sym c.as_slice.ensures.items)
    (c.good_evidence_has_obligations_that_hold.ensures c.args.system.now c.args.formulas.now c.args.trees.now c.known.ensures.system c.requires)
