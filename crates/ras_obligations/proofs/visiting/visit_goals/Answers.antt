use Rattle.std.proofs.Common.{◌≡◌, [], ◌∷◌, List, All, length, get_or, sym, ◌∙◌, ap, subst, arith}
use Rattle.std.specs.Prelude.{flat_map}
use Rattle.ras_logic.specs.declared.problem.Problem.{Problem}
use Rattle.ras_logic.specs.Formulas.{Fits}
use Rattle.ras_system.specs.Obligations.{Obligation, with_formulas}
use Rattle.ras_obligations.proofs.Parts.{stopped-as, map-parts, visits-part, bars-part, visits-all}
use Rattle.ras_obligations.proofs.visiting.visit_goals.Goals as goal

pub visit-requires-clause-premise : goal.visit-requires-clause-premise
visit-requires-clause-premise g c =
    let all : All (Fits c.args.system.now.shape) c.goals-goal-items.result.now = subst (All (Fits c.args.system.now.shape)) (sym c.goals-goal-items.ensures) c.known.ensures.system.goals in
    subst (Fits c.args.system.now.shape) (sym (c.in_ok-premise.ensures ∙ c.goal-item.is)) (all c.loop-goal.goal-index c.goal-item.result c.loop-goal-test.true)

pub returns-in_err-visit-clause-barred : goal.returns-in_err-visit-clause-barred
returns-in_err-visit-clause-barred g c =
    let w : Problem → Obligation = with_formulas c.args.formulas.now in
    stopped-as _ _ (bars-part g.V.Visitor.given (g.V.Visitor.visited c.args.system.now) (g.V.Visitor.barred c.args.system.now) (g.met.V.Visitor.bars_more c.args.system.now)
    (λ (p : Problem). w p ∷ []) c.goals-goal-items.result.now c.loop-goal.goal-index c.goal-item.result c.loop-goal-test.true c.goal-item.is
    _ (ap (λ (p : Problem). w p ∷ []) c.in_ok-premise.ensures)
    _ _ _ c.loop-goal.invariant.visits _ (map-parts w c.args.system.now.goals ∙ ap (flat_map (λ (p : Problem). w p ∷ [])) (sym c.goals-goal-items.ensures)))
    c.from_residual-in_err-visit.result c.in_err-visit.field-0.0 c.from_residual-in_err-visit.ensures.1 c.in_err-visit.ensures.barred

pub loop-goal-preserved : goal.loop-goal-preserved
loop-goal-preserved g c =
    let w : Problem → Obligation = with_formulas c.args.formulas.now in
    record {
      ready = c.in_ok-visit.ensures.ready;
      visits = visits-part g.V.Visitor.given (g.V.Visitor.visited c.args.system.now) (g.V.Visitor.barred c.args.system.now) (g.met.V.Visitor.bars_more c.args.system.now)
          (λ (p : Problem). w p ∷ []) c.goals-goal-items.result.now c.loop-goal.goal-index c.goal-item.result c.loop-goal-test.true c.goal-item.is
          _ (ap (λ (p : Problem). w p ∷ []) c.in_ok-premise.ensures)
          _ _ _ c.loop-goal.invariant.visits c.in_ok-visit.ensures.visited;
    }

pub returns-clause-visited : goal.returns-clause-visited
returns-clause-visited g c =
    let w : Problem → Obligation = with_formulas c.args.formulas.now in
    visits-all g.V.Visitor.given (g.V.Visitor.visited c.args.system.now) (g.V.Visitor.barred c.args.system.now) (g.met.V.Visitor.bars_more c.args.system.now)
    (λ (p : Problem). w p ∷ []) c.goals-goal-items.result.now c.loop-goal.goal-index
    _ (map-parts w c.args.system.now.goals ∙ ap (flat_map (λ (p : Problem). w p ∷ [])) (sym c.goals-goal-items.ensures))
    c.loop-goal-test.false _ _ c.loop-goal.invariant.visits
