use Rattle.std.proofs.Common.{subst}
use Rattle.ras_logic.specs.declared.problem.Problem.{Problem}
use Rattle.ras_logic.specs.Shapes.{ShapeParts}
use Rattle.ras_logic.specs.Clashes.{FactsClash}
use Rattle.ras_entail.specs.Starts.{IsModelState}
use Rattle.ras_entail.proofs.StartStates.{start-none, start-found}
use Rattle.ras_entail.proofs.starts.initial_meets.Goals as goal

pub of-requires : goal.of-requires
of-requires c = rw c.shape.ensures c.in_ok-premise.ensures.fits

pub returns-in-None-clause-none : goal.returns-in-None-clause-none
returns-in-None-clause-none c =
    let clash : FactsClash c.shape.result.now.schema c.in_ok-premise.premise.literals = rw c.in-None.is at c.in_ok-of.ensures in
    start-none c.args.system.now c.known.ensures.system c.args.cube.now c.requires
    (subst (λ (p : Problem). FactsClash c.args.system.now.shape.schema p.literals) c.in_ok-premise.ensures.premise
    (subst (λ (s : ShapeParts). FactsClash s.schema c.in_ok-premise.premise.literals) c.shape.ensures clash))

pub returns-clause-some : goal.returns-clause-some
returns-clause-some c =
    start-found c.args.system.now c.known.ensures.system c.args.cube.now c.requires c.in_ok-witness-in-Some.witness
    (subst (λ (p : Problem). IsModelState c.args.system.now.shape p c.in_ok-witness-in-Some.witness) c.in_ok-premise.ensures.premise
    (subst (λ (s : ShapeParts). IsModelState s c.in_ok-premise.premise c.in_ok-witness-in-Some.witness) c.shape-in-Some.ensures c.in_ok-witness-in-Some.ensures))
