use Rattle.std.proofs.Common.{◌≡◌, ◌++◌, List, subst, append_assoc}
use Rattle.ras_names.specs.Placed as placed
use Rattle.ras_names.specs.Checks.{Check, for_each}
use Rattle.ras_names.specs.FileChecks.{sort_checks, function_checks, constant_checks, variable_checks, relation_checks, step_checks, goal_checks, checks}
use Rattle.ras_names.proofs.Passing.{Passes, pass_both}
use Rattle.ras_scope.specs.Answering.{Faults}
use Rattle.ras_declarations.specs.Declaring.{declaration_checks}
use Rattle.ras_scope.specs.Placing.{placed_file}
use Rattle.ras_scope.proofs.Following.{handed, faults_stay, faults_follow}
use Rattle.ras_elab.proofs.elaborating.read_items.Goals as goal

abbrev steps : placed.File → List Check
steps p = for_each (step_checks p) p.steps

abbrev goals : placed.File → List Check
goals p = for_each (goal_checks p) p.goals

joined : (a b c d e rest : List Check) → ((a ++ (b ++ c)) ++ (d ++ e)) ++ rest ≡ a ++ (b ++ (c ++ (d ++ (e ++ rest))))
joined a b c d e rest = simp append_assoc

-- the items above the steps, and then the steps and the goals
whole : (p : placed.File) → declaration_checks p ++ (steps p ++ goals p) ≡ checks p
whole p =
    joined (for_each (sort_checks p) p.sorts) (for_each (function_checks p) p.functions) (for_each (constant_checks p) p.constants) (for_each (variable_checks p) p.variables)
    (for_each (relation_checks p) p.relations) (steps p ++ goals p)

pub returns-in_err-declarations-clause-checks : goal.returns-in_err-declarations-clause-checks
returns-in_err-declarations-clause-checks c =
    let p = placed_file c.args.file.now in
    let e = c.in_err-declarations.field-0.0 in
    handed (checks p) c.from_residual.result e c.from_residual.ensures.1
    (subst (λ (cs : List Check). Faults cs e) (whole p) (faults_stay (declaration_checks p) (steps p ++ goals p) e c.in_err-declarations.ensures.checks))

pub returns-in_err-steps-clause-checks : goal.returns-in_err-steps-clause-checks
returns-in_err-steps-clause-checks c =
    let p = placed_file c.args.file.now in
    let e = c.in_err-steps.field-0.0 in
    handed (checks p) c.from_residual-in_err-steps.result e c.from_residual-in_err-steps.ensures.1
    (subst (λ (cs : List Check). Faults cs e) (whole p) (faults_follow (declaration_checks p) (steps p ++ goals p) e c.in_ok-declarations.ensures.checks
    (faults_stay (steps p) (goals p) e c.in_err-steps.ensures.checks)))

pub returns-in_err-goals-clause-checks : goal.returns-in_err-goals-clause-checks
returns-in_err-goals-clause-checks c =
    let p = placed_file c.args.file.now in
    let e = c.in_err-goals.field-0.0 in
    handed (checks p) c.from_residual-in_err-goals.result e c.from_residual-in_err-goals.ensures.1
    (subst (λ (cs : List Check). Faults cs e) (whole p) (faults_follow (declaration_checks p) (steps p ++ goals p) e c.in_ok-declarations.ensures.checks
    (faults_follow (steps p) (goals p) e c.in_ok-steps.ensures.checks c.in_err-goals.ensures.checks)))

pub read_steps-requires : goal.read_steps-requires
read_steps-requires c = record { agrees = c.in_ok-declarations.ensures.items.agrees; shared = c.in_ok-declarations.ensures.items.shared_names }

pub read_goals-requires : goal.read_goals-requires
read_goals-requires c = record { agrees = c.in_ok-steps.ensures.agrees; shared = c.in_ok-steps.ensures.shared }

pub returns : goal.returns
returns c =
    let p = placed_file c.args.file.now in
    record {
      checks = subst Passes (whole p) (pass_both (declaration_checks p) (steps p ++ goals p) c.in_ok-declarations.ensures.checks (pass_both (steps p) (goals p) c.in_ok-steps.ensures.checks c.in_ok-goals.ensures.checks));
      parts = record {
        agrees = c.in_ok-steps.ensures.agrees;
        initial = c.in_ok-declarations.ensures.items.initials;
        transitions = c.in_ok-steps.ensures.transitions;
        cubes = c.in_ok-goals.ensures.cubes;
        steps = c.in_ok-steps.ensures.names;
        goals = c.in_ok-goals.ensures.names;
      };
    }
