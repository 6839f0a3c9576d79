use Rattle.std.proofs.Common.{◌≡◌, ◌<◌, [], List, All, map, length, get_or, sym, ◌∙◌, ap, subst, arith}
use Rattle.std.specs.Prelude.{slice_get, Some}
use Rattle.std.proofs.lemmas.List.{get_or_default}
use Rattle.std.proofs.lemmas.Option.{slice_get-get_or}
use Rattle.ras_logic.specs.declared.problem.Problem.{Problem}
use Rattle.ras_logic.specs.Formulas.{Fits}
use Rattle.ras_system.specs.declared.transition.Transition.{Transition}
use Rattle.ras_system.specs.Preimages.{preimage}
use Rattle.ras_system.specs.Obligations.{Obligation, with_formulas}
use Rattle.ras_obligations.proofs.Parts.{stopped-as, flat-parts, visits-part, bars-part, visits-all}
use Rattle.ras_obligations.proofs.visiting.visit_preimages.Goals as goal

nothing : Transition
nothing = record { rows = []; params = []; guard = []; updates = []; bulk = [] }

pub visit_premises-requires-clause-premises : goal.visit_premises-requires-clause-premises
visit_premises-requires-clause-premises g c = subst (All (Fits c.args.system.now.shape)) (sym c.as_slice.ensures.items) (c.in_ok-premises.ensures.fit c.requires.formula)

pub returns-in_err-visit_premises-clause-barred : goal.returns-in_err-visit_premises-clause-barred
returns-in_err-visit_premises-clause-barred g c =
    let w : Problem → Obligation = with_formulas c.args.formulas.now in
    let all : List Transition = c.args.system.now.transitions in
    let t : Transition = get_or all c.loop-number.number nothing in
    let below : c.loop-number.number < length all = omega (arith, c.loop-number-test.true, ap length c.transitions.ensures) in
    let premises : c.as_slice.result.now ≡ preimage t c.args.formula.now =
    c.as_slice.ensures.items ∙ c.in_ok-premises.ensures.list t (slice_get-get_or all c.loop-number.number nothing below) in
    stopped-as _ _ (bars-part g.V.Visitor.given (g.V.Visitor.visited c.args.system.now) (g.V.Visitor.barred c.args.system.now) (g.met.V.Visitor.bars_more c.args.system.now)
    (λ (u : Transition). map w (preimage u c.args.formula.now)) all c.loop-number.number t below (get_or_default all c.loop-number.number nothing t below)
    _ (ap (map w) premises) _ _ _ c.loop-number.invariant.visits _ (flat-parts w (λ (u : Transition). preimage u c.args.formula.now) all))
    c.from_residual-in_err-visit_premises.result c.in_err-visit_premises.field-0.0 c.from_residual-in_err-visit_premises.ensures.1 c.in_err-visit_premises.ensures.barred

pub loop-number-preserved : goal.loop-number-preserved
loop-number-preserved g c =
    let w : Problem → Obligation = with_formulas c.args.formulas.now in
    let all : List Transition = c.args.system.now.transitions in
    let t : Transition = get_or all c.loop-number.number nothing in
    let below : c.loop-number.number < length all = omega (arith, c.loop-number-test.true, ap length c.transitions.ensures) in
    let premises : c.as_slice.result.now ≡ preimage t c.args.formula.now =
    c.as_slice.ensures.items ∙ c.in_ok-premises.ensures.list t (slice_get-get_or all c.loop-number.number nothing below) in
    record {
      ready = c.in_ok-visit_premises.ensures.ready;
      visits = visits-part g.V.Visitor.given (g.V.Visitor.visited c.args.system.now) (g.V.Visitor.barred c.args.system.now) (g.met.V.Visitor.bars_more c.args.system.now)
          (λ (u : Transition). map w (preimage u c.args.formula.now)) all c.loop-number.number t below (get_or_default all c.loop-number.number nothing t below)
          _ (ap (map w) premises) _ _ _ c.loop-number.invariant.visits c.in_ok-visit_premises.ensures.visited;
    }

pub returns-clause-visited : goal.returns-clause-visited
returns-clause-visited g c =
    let w : Problem → Obligation = with_formulas c.args.formulas.now in
    visits-all g.V.Visitor.given (g.V.Visitor.visited c.args.system.now) (g.V.Visitor.barred c.args.system.now) (g.met.V.Visitor.bars_more c.args.system.now)
    (λ (u : Transition). map w (preimage u c.args.formula.now)) c.args.system.now.transitions c.loop-number.number
    _ (flat-parts w (λ (u : Transition). preimage u c.args.formula.now) c.args.system.now.transitions)
    (omega (arith, c.loop-number-test.false, ap length c.transitions.ensures)) _ _ c.loop-number.invariant.visits
