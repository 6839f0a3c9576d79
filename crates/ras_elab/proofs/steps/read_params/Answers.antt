use Rattle.std.proofs.Common.{◌≡◌, List, ◌++◌, map, ◌∙◌, subst}
use Rattle.std.specs.Prelude.{All, OnOk}
use Rattle.ras_syntax.specs.Grammar.{Text}
use Rattle.ras_names.specs.Placed.{Declared as Item}
use Rattle.ras_names.specs.Checks.{for_each}
use Rattle.ras_names.specs.StepChecks.{param_checks}
use Rattle.ras_numbering.specs.Numbers.{number_in, declared_sort}
use Rattle.ras_declarations.specs.Naming.{named_checks, IsOneOf}
use Rattle.ras_scope.specs.Placing.{placed_param}
use Rattle.ras_declarations.proofs.Answered.{answers_same, if_ok-to}
use Rattle.ras_elab.proofs.steps.read_params.Goals as goal

pub returns : goal.returns
returns c =
    let sorts = c.args.declared.now.sorts in
    let above : List Text = c.args.declared.now.shared ++ c.args.rows.now in
    let all = map placed_param c.args.params.now in
    let r = c.read_named.result in
    record {
      checks = λ p same.
          answers_same (for_each (named_checks 16 above sorts all) all) (for_each (param_checks p above all) all) r
          (λ i. for_each (named_checks 16 above (same i) all) all) c.read_named.ensures.checks;
      names = c.read_named.ensures.names;
      values = λ p same.
          if_ok-to (λ t. t.values.items ≡ map (declared_sort p) all) r (λ t h. h ∙ (λ i. map (λ (d : Item). record { n = number_in (same i) d.of.text }) all)) c.read_named.ensures.values;
      known = λ p same. subst (λ (ts : List Text). OnOk r (All (IsOneOf ts) all)) same c.read_named.ensures.known;
    }
