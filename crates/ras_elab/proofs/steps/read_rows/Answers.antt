use Rattle.std.proofs.Common.{◌≡◌, List, ◌++◌, map, ◌∙◌, subst}
use Rattle.std.specs.Prelude.{All, OnOk}
use Rattle.ras_syntax.specs.Grammar.{Text}
use Rattle.ras_names.specs.Placed.{Declared as Item}
use Rattle.ras_names.specs.Checks.{for_each}
use Rattle.ras_names.specs.StepChecks.{row_checks}
use Rattle.ras_numbering.specs.Numbers.{number_in, declared_relation}
use Rattle.ras_declarations.specs.Naming.{named_checks, IsOneOf}
use Rattle.ras_scope.specs.Placing.{placed_row}
use Rattle.ras_declarations.proofs.Answered.{answers_same, if_ok-to}
use Rattle.ras_elab.proofs.steps.read_rows.Goals as goal

pub returns : goal.returns
returns c =
    let relations = c.args.declared.now.relations in
    let shared = c.args.declared.now.shared in
    let all = map placed_row c.args.rows.now in
    let r = c.read_named.result in
    record {
      checks = λ p same.
          answers_same (for_each (named_checks 8 (c.new-none.result ++ shared) relations all) all) (for_each (row_checks p shared all) all) r
          (λ i. for_each (named_checks 8 (c.new-none.ensures i ++ shared) (same i) all) all) c.read_named.ensures.checks;
      names = c.read_named.ensures.names;
      values = λ p same.
          if_ok-to (λ t. t.values.items ≡ map (declared_relation p) all) r (λ t h. h ∙ (λ i. map (λ (d : Item). record { n = number_in (same i) d.of.text }) all)) c.read_named.ensures.values;
      known = λ p same. subst (λ (ts : List Text). OnOk r (All (IsOneOf ts) all)) same c.read_named.ensures.known;
    }
