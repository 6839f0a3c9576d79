use Rattle.std.proofs.Common.{◌≡◌, ◌∷◌, ◌++◌, [], ℕ, ◌+◌, List, length, map, take, refl, sym, ◌∙◌, ap, subst, append-nil}
use Rattle.std.specs.Prelude.{flat_map}
use Rattle.std.proofs.lemmas.Grind.{flat_map-append}
use Rattle.ras_logic.specs.declared.problem.Problem.{Problem}
use Rattle.ras_syntax.specs.declared.tree.Goal.{Goal}
use Rattle.ras_syntax.specs.Grammar.{Text}
use Rattle.ras_names.specs.declared.names.GoalNames.{GoalNames}
use Rattle.ras_names.specs.Placed as placed
use Rattle.ras_names.specs.Unplaced.{goal_of}
use Rattle.ras_names.specs.FileNames.{names_of_goal}
use Rattle.ras_names.specs.Checks.{Check, for_each}
use Rattle.ras_names.specs.FileChecks.{above_step, goal_count, goal_checks}
use Rattle.ras_names.proofs.Among.{map-map}
use Rattle.ras_names.proofs.Passing.{Passes}
use Rattle.ras_numbering.specs.FileValues.{goal_values}
use Rattle.ras_scope.specs.Answering.{Faults}
use Rattle.ras_elab.specs.Goals.{item_checks}
use Rattle.ras_scope.specs.Placing.{placed_goal, placed_file}
use Rattle.ras_scope.proofs.Following.{handed}
use Rattle.ras_declarations.proofs.Turns.{turn_within, turn_item, turns_end, turns_none, turn_passed, turn_failed, turns_passed}
use Rattle.ras_declarations.proofs.NewNames.{items_more, keys_more, whole, pushed_as}
use Rattle.ras_elab.proofs.GoalParts.{goals_count}
use Rattle.ras_elab.proofs.goals.read_goals.Goals as goal

abbrev own_names : placed.Goal → GoalNames
own_names g = names_of_goal (goal_of g)

-- the checks of an unsafe item, by what was read
same_checks : (p : placed.File) (xs : List Goal) (i : ℕ) (shared : List Text) (cubes : List Problem) (g : placed.Goal) → p.goals ≡ map placed_goal xs
    → shared ≡ above_step p (length p.steps) → cubes ≡ flat_map (goal_values p) (take i (map placed_goal xs)) → item_checks p shared (length cubes) g ≡ goal_checks p i g
same_checks p xs i shared cubes g own above made =
    let counted : length cubes ≡ goal_count (take i p.goals) =
    ap length made ∙ goals_count p (take i (map placed_goal xs)) ∙ ap (λ (gs : List placed.Goal). goal_count (take i gs)) (sym own) in
    λ j. item_checks p (above j) (counted j) g

pub loop-goal-init : goal.loop-goal-init
loop-goal-init c = record {
  cubes = c.new-cubes.ensures;
  names = c.new-names.ensures;
  passed = turns_none (goal_checks (placed_file c.args.file.now)) placed_goal c.args.file.now.goals.items;
}

pub add_item-requires : goal.add_item-requires
add_item-requires c = record { file = placed_file c.args.file.now; agrees = c.requires.agrees }

pub returns-in_err-item-clause-checks : goal.returns-in_err-item-clause-checks
returns-in_err-item-clause-checks c =
    let p = placed_file c.args.file.now in
    let xs = c.args.file.now.goals.items in
    let i = c.loop-goal.goal-index in
    let item = c.goal-item.result in
    let e = c.in_err-item.field-0.0 in
    let lt = turn_within c.deref-goal-items.result.now xs i c.deref-goal-items.ensures.value c.loop-goal-test.true in
    let is = turn_item c.deref-goal-items.result.now xs i item c.deref-goal-items.ensures.value c.goal-item.is in
    let v = c.loop-goal.invariant in
    let same = same_checks p xs i c.args.declared.now.shared c.loop-goal.cubes (placed_goal item) refl c.requires.shared v.cubes in
    handed (for_each (goal_checks p) (map placed_goal xs)) c.from_residual.result e c.from_residual.ensures.1
    (turn_failed (goal_checks p) placed_goal xs i item e lt is v.passed (subst (λ (cs : List Check). Faults cs e) same (c.in_err-item.ensures.checks p c.requires.agrees)))

pub loop-goal-preserved : goal.loop-goal-preserved
loop-goal-preserved c =
    let p = placed_file c.args.file.now in
    let xs = c.args.file.now.goals.items in
    let i = c.loop-goal.goal-index in
    let item = c.goal-item.result in
    let lt = turn_within c.deref-goal-items.result.now xs i c.deref-goal-items.ensures.value c.loop-goal-test.true in
    let is = turn_item c.deref-goal-items.result.now xs i item c.deref-goal-items.ensures.value c.goal-item.is in
    let v = c.loop-goal.invariant in
    let same = same_checks p xs i c.args.declared.now.shared c.loop-goal.cubes (placed_goal item) refl c.requires.shared v.cubes in
    let before : List placed.Goal = take i (map placed_goal xs) in
    let more : flat_map (goal_values p) (take (i + 1) (map placed_goal xs)) ≡ flat_map (goal_values p) before ++ goal_values p (placed_goal item) =
    ap (flat_map (goal_values p)) (items_more placed_goal xs i item lt is) ∙ flat_map-append (goal_values p) before (placed_goal item ∷ [])
    ∙ ap (λ (ps : List Problem). flat_map (goal_values p) before ++ ps) (append-nil (goal_values p (placed_goal item))) in
    record {
      cubes = c.in_ok-item.ensures.cubes p c.requires.agrees ∙ ap (λ (ps : List Problem). ps ++ goal_values p (placed_goal item)) v.cubes ∙ sym more;
      names = pushed_as _ _ _ _ _ (own_names (placed_goal item)) c.in_ok-push.ensures.ok c.in_ok-item.ensures.names v.names (sym (keys_more placed_goal xs i item lt is own_names));
      passed = turn_passed (goal_checks p) placed_goal xs i item lt is v.passed (subst Passes same (c.in_ok-item.ensures.checks p c.requires.agrees));
    }

pub returns : goal.returns
returns c =
    let p = placed_file c.args.file.now in
    let xs = c.args.file.now.goals.items in
    let i = c.loop-goal.goal-index in
    let le = turns_end c.deref-goal-items.result.now xs i c.deref-goal-items.ensures.value c.loop-goal-test.false in
    let all : take i (map placed_goal xs) ≡ map placed_goal xs = whole placed_goal xs i le in
    let v = c.loop-goal.invariant in
    record {
      checks = turns_passed (goal_checks p) placed_goal xs i le v.passed;
      cubes = v.cubes ∙ ap (flat_map (goal_values p)) all;
      names = v.names ∙ ap (map own_names) all ∙ sym (map-map names_of_goal goal_of p.goals);
    }
