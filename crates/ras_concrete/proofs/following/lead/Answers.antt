use Rattle.std.proofs.Common.{◌≡◌, List, All, refl, sym, ◌∙◌, subst, length}
use Rattle.std.specs.Prelude.{slice_get, Some}
use Rattle.std.proofs.lemmas.Option.{slice_get_read}
use Rattle.ras_logic.specs.declared.problem.Problem.{Problem}
use Rattle.ras_logic.specs.Shapes.{ShapeParts}
use Rattle.ras_logic.specs.Formulas.{Fits}
use Rattle.ras_logic.proofs.Elements.{from_known}
use Rattle.ras_logic.proofs.AllSteps.{all_step, all_done}
use Rattle.ras_concrete.specs.Meeting.{IsMetThere, CannotMeet}
use Rattle.ras_concrete.proofs.Leading.{within, not_all, has_step, all_led}
use Rattle.ras_concrete.proofs.following.lead.Goals as goal

pub met_there-requires-clause-fits : goal.met_there-requires-clause-fits
met_there-requires-clause-fits c =
    let items = c.as_slice-problem-items.result.now in
    let known : slice_get items c.loop-problem.problem-index ≡ Some c.problem-item.result =
    slice_get_read items (length items) c.loop-problem.problem-index c.problem-item.result refl c.loop-problem-test.true c.problem-item.is in
    let fit : All (Fits c.args.system.now.shape) items =
    subst (λ (ps : List Problem). All (Fits c.args.system.now.shape) ps) (sym c.as_slice-problem-items.ensures.items) (c.in_ok-problems.ensures.fit c.requires.fits) in
    subst (λ (shape : ShapeParts). Fits shape c.problem-item.result) (sym c.shape.ensures)
    (from_known (Fits c.args.system.now.shape) items fit c.loop-problem.problem-index c.problem-item.result known)

pub led_there-requires-clause-transition : goal.led_there-requires-clause-transition
led_there-requires-clause-transition c = within c.args.system.now c.args.transition c.args.cube.now c.args.db c.args.state.now c.requires.leads

pub led_there-requires-clause-step : goal.led_there-requires-clause-step
led_there-requires-clause-step c =
    let items = c.as_slice-problem-items.result.now in
    let known : slice_get items c.loop-problem.problem-index ≡ Some c.problem-item.result =
    slice_get_read items (length items) c.loop-problem.problem-index c.problem-item.result refl c.loop-problem-test.true c.problem-item.is in
    let met : IsMetThere c.args.system.now.shape c.args.db c.args.state.now c.problem-item.result c.in-Some-2.there =
    subst (λ (shape : ShapeParts). IsMetThere shape c.args.db c.args.state.now c.problem-item.result c.in-Some-2.there) c.shape.ensures (rw c.in-Some-2.is at c.in_ok-there.ensures.some) in
    has_step c.args.system.now c.args.transition c.args.cube.now c.args.db c.args.state.now c.requires.leads c.a_problem_gives_its_step.ensures c.known.ensures.system c.requires.fits c.known-2.ensures.cube
    c.requires.state items (λ t is. c.as_slice-problem-items.ensures.items ∙ c.in_ok-problems.ensures.list t is) c.loop-problem.problem-index c.problem-item.result known c.in-Some-2.there met

pub returns-in-Some-2 : goal.returns-in-Some-2
returns-in-Some-2 c =
    let items = c.as_slice-problem-items.result.now in
    let known : slice_get items c.loop-problem.problem-index ≡ Some c.problem-item.result =
    slice_get_read items (length items) c.loop-problem.problem-index c.problem-item.result refl c.loop-problem-test.true c.problem-item.is in
    let met : IsMetThere c.args.system.now.shape c.args.db c.args.state.now c.problem-item.result c.in-Some-2.there =
    subst (λ (shape : ShapeParts). IsMetThere shape c.args.db c.args.state.now c.problem-item.result c.in-Some-2.there) c.shape.ensures (rw c.in-Some-2.is at c.in_ok-there.ensures.some) in
    all_led c.args.system.now c.args.transition c.args.cube.now c.args.db c.args.state.now c.requires.leads c.a_problem_gives_its_step.ensures c.known.ensures.system c.requires.fits c.known-2.ensures.cube
    c.requires.state items (λ t is. c.as_slice-problem-items.ensures.items ∙ c.in_ok-problems.ensures.list t is) c.loop-problem.problem-index c.problem-item.result known c.in-Some-2.there met
    c.led_there.result c.led_there.ensures.db c.led_there.ensures.by c.led_there.ensures.step c.led_there.ensures.choice

pub loop-problem-preserved : goal.loop-problem-preserved
loop-problem-preserved c =
    all_step (CannotMeet c.args.system.now.shape c.args.db c.args.state.now) c.as_slice-problem-items.result.now c.loop-problem.problem-index c.problem-item.result c.loop-problem-test.true
    c.problem-item.is c.loop-problem.invariant
    (subst (λ (shape : ShapeParts). CannotMeet shape c.args.db c.args.state.now c.problem-item.result) c.shape.ensures (rw c.in_default-2.is at c.in_ok-there.ensures.none))

pub unreachable-requires : goal.unreachable-requires
unreachable-requires c =
    not_all c.args.system.now c.args.transition c.args.cube.now c.args.db c.args.state.now c.requires.leads c.requires.state c.in_ok-problems.problems (c.in_ok-problems.ensures.exact c.requires.fits)
    (subst (λ (ps : List Problem). All (CannotMeet c.args.system.now.shape c.args.db c.args.state.now) ps) c.as_slice-problem-items.ensures.items
    (all_done (CannotMeet c.args.system.now.shape c.args.db c.args.state.now) c.as_slice-problem-items.result.now c.loop-problem.problem-index c.loop-problem-test.false c.loop-problem.invariant))
