use Rattle.std.proofs.Common.{◌++◌, ℕ, List, length, map, ◌∙◌, ap, subst}
use Rattle.ras_logic.specs.declared.problem.Problem.{Problem}
use Rattle.ras_logic.specs.declared.ids.RelId.{RelId}
use Rattle.ras_names.proofs.Passing.{Passes}
use Rattle.ras_scope.specs.Answering.{Faults}
use Rattle.ras_elab.specs.Goals.{cube_of, item_checks}
use Rattle.ras_scope.specs.Placing.{placed_goal}
use Rattle.ras_scope.proofs.Following.{handed}
use Rattle.ras_elab.proofs.goals.add_item.Goals as goal

pub returns-in_err-item-clause-checks : goal.returns-in_err-item-clause-checks
returns-in_err-item-clause-checks c = λ p a.
    let g = placed_goal c.args.goal.now in
    let shared = c.args.declared.now.shared in
    let e = c.in_err-item.field-0.0 in
    handed (item_checks p shared (length c.args.cubes.now) g) c.from_residual.result e c.from_residual.ensures.1
    (subst (λ (n : ℕ). Faults (item_checks p shared n g) e) c.len.ensures.count (c.in_err-item.ensures.checks p a))

pub add_goals-requires : goal.add_goals-requires
add_goals-requires c = c.in_ok-item.ensures.no_params c.requires

pub returns : goal.returns
returns c =
    let g = placed_goal c.args.goal.now in
    let shared = c.args.declared.now.shared in
    let item = c.in_ok-item.item in
    record {
      checks = λ p a. subst (λ (n : ℕ). Passes (item_checks p shared n g)) c.len.ensures.count (c.in_ok-item.ensures.checks p a);
      cubes = λ p a. c.in_ok-add_goals.ensures
          ∙ ap (λ (ps : List Problem). c.args.cubes.now ++ ps) (ap (λ (rs : List RelId). map (cube_of rs) item.disjuncts) (c.from_vec.ensures ∙ c.in_ok-names.ensures.values) ∙ c.in_ok-item.ensures.values p a);
      names = λ i. record { rows = (c.in_ok-names.ensures.names ∙ c.in_ok-item.ensures.names) i; disjuncts = (c.len-disjuncts.ensures.count ∙ c.in_ok-item.ensures.count c.requires) i };
    }
