use Rattle.std.proofs.Common.{refl, sym, ◌∙◌, subst}
use Rattle.std.specs.Prelude.{Option, Some, Result, option_map}
use Rattle.ras_logic.specs.declared.ids.ConstId.{ConstId}
use Rattle.ras_syntax.specs.declared.tree.Initial.{Initial}
use Rattle.ras_names.specs.FileChecks.{initial_checks}
use Rattle.ras_names.proofs.Passing.{Passes, passed-not}
use Rattle.ras_scope.specs.declared.fault.SpecError.{SpecError}
use Rattle.ras_scope.specs.Answering.{Answers}
use Rattle.ras_scope.specs.Placing.{placed_initial}
use Rattle.ras_declarations.proofs.Initials.{differs, initial_wrong, initial_right}
use Rattle.ras_declarations.proofs.declarations.read_initial.Goals as goal

pub returns-in-None-clause-checks : goal.returns-in-None-clause-checks
returns-in-None-clause-checks c = λ p of a known same. subst (λ (o : Option Initial). Passes (initial_checks p of (option_map placed_initial o))) (sym c.in-None.is) refl

pub returns-then-ne-clause-checks : goal.returns-then-ne-clause-checks
returns-then-ne-clause-checks c = λ p of a known same.
    let i = placed_initial c.in-Some.initial in
    let found = c.in-Some-find.ensures.found in
    subst (λ (o : Option Initial). Answers (initial_checks p of (option_map placed_initial o)) c.fault-then-ne.result) (sym c.in-Some.is)
    (subst (λ (r : Result (Option ConstId) SpecError). Answers (initial_checks p of (Some i)) r) (sym c.fault-then-ne.ensures)
    (initial_wrong p of c.args.constants.now a i c.in-Some-find.n c.in-Some-find.own c.args.sort c.in-Some-find.ensures.known found known same (differs _ (sym c.ne.ensures ∙ c.if-ne.true))))

pub returns-else-ne-clause-checks : goal.returns-else-ne-clause-checks
returns-else-ne-clause-checks c = λ p of a known same.
    let i = placed_initial c.in-Some.initial in
    let found = c.in-Some-find.ensures.found in
    subst (λ (o : Option Initial). Passes (initial_checks p of (option_map placed_initial o))) (sym c.in-Some.is)
    (initial_right p of c.args.constants.now a i c.in-Some-find.n c.in-Some-find.own c.args.sort c.in-Some-find.ensures.known found known same (passed-not _ (sym c.ne.ensures ∙ c.if-ne.false)))
