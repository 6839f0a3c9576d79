use Rattle.std.proofs.Common.{◌≡◌, ◌↔◌, List, slice_get, Some, get_or, sym, ◌∙◌, ap, subst}
use Rattle.std.specs.Prelude.{All}
use Rattle.std.proofs.lemmas.Option.{slice_get-get_or}
use Rattle.ras_logic.specs.declared.problem.Problem.{Problem}
use Rattle.ras_logic.specs.Formulas.{Fits}
use Rattle.ras_system.specs.declared.transition.Transition.{Transition}
use Rattle.ras_system.specs.States.{MeetsAny}
use Rattle.ras_system.specs.Systems.{IsTransition}
use Rattle.ras_backwards.specs.Leading.{LeadsIn}
use Rattle.ras_preimage.proofs.problems.pre.Goals as goal

pub returns-clause-fit : goal.returns-clause-fit
returns-clause-fit c =
    let shape = c.args.system.now.shape in
    let t : Transition = c.index-transitions-transition.result in
    let read : t ≡ get_or c.args.system.now.transitions c.args.transition t = c.index-transitions-transition.is ∙ ap (λ (l : List Transition). get_or l c.args.transition t) c.transitions.ensures in
    let good : IsTransition shape t = subst (IsTransition shape) (sym read) (c.known.ensures.system.transitions c.args.transition t c.requires) in
    λ f. subst (All (Fits shape)) (sym c.in_ok-problems.ensures) (c.a_preimage_fits.ensures shape t c.args.cube.now good f c.known-2.ensures.cube)

pub returns-clause-exact : goal.returns-clause-exact
returns-clause-exact c =
    let t : Transition = c.index-transitions-transition.result in
    let read : t ≡ get_or c.args.system.now.transitions c.args.transition t = c.index-transitions-transition.is ∙ ap (λ (l : List Transition). get_or l c.args.transition t) c.transitions.ensures in
    let known : slice_get c.args.system.now.transitions c.args.transition ≡ Some t = slice_get-get_or c.args.system.now.transitions c.args.transition t c.requires ∙ ap Some (sym read) in
    λ f d s st.
    subst (λ (ps : List Problem). LeadsIn c.args.system.now d s c.args.transition c.args.cube.now ↔ MeetsAny d s ps) (sym c.in_ok-problems.ensures)
    (c.a_preimage_is_exact.ensures.system c.args.system.now c.args.transition t c.args.cube.now d s c.known.ensures.system known f c.known-2.ensures.cube st)
