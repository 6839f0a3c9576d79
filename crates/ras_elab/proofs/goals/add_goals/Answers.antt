use Rattle.std.proofs.Common.{◌∷◌, ◌++◌, [], List, map, sym, ◌∙◌, ap, subst, append_assoc}
use Rattle.std.specs.Prelude.{All}
use Rattle.std.proofs.lemmas.List.{map-append}
use Rattle.ras_logic.specs.declared.literal.Literal.{Literal}
use Rattle.ras_logic.specs.declared.problem.Problem.{Problem}
use Rattle.ras_logic.specs.Formulas.{HasNoParam}
use Rattle.ras_elab.specs.Goals.{cube_of}
use Rattle.ras_declarations.proofs.ColumnParts.{head_all, tail_all}
use Rattle.ras_elab.proofs.goals.add_goals.Goals as goal

pub add_goal-requires : goal.add_goal-requires
add_goal-requires c =
    head_all (All HasNoParam) c.in-Some.literals c.next.new.self.rest.items (subst (λ (ds : List (List Literal)). All (All HasNoParam) ds) c.in-Some.ensures.steps.0 c.loop-literals.invariant.left)

pub loop-literals-preserved : goal.loop-literals-preserved
loop-literals-preserved c =
    let cube = cube_of c.args.rows.now in
    let last : List Problem = cube c.in-Some.literals ∷ [] in
    record {
      cubes = c.in_ok-add_goal.ensures ∙ ap (λ (ps : List Problem). ps ++ last) c.loop-literals.invariant.cubes ∙ append_assoc c.args.cubes.now (map cube c.loop-literals.yielded) last
          ∙ ap (λ (ps : List Problem). c.args.cubes.now ++ ps) (sym (map-append cube c.loop-literals.yielded (c.in-Some.literals ∷ [])));
      left = tail_all (All HasNoParam) c.in-Some.literals c.next.new.self.rest.items (subst (λ (ds : List (List Literal)). All (All HasNoParam) ds) c.in-Some.ensures.steps.0 c.loop-literals.invariant.left);
    }
