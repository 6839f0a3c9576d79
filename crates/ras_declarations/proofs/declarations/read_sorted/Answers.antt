use Rattle.std.proofs.Common.{◌≡◌, true, false, [], ◌∷◌, ◌++◌}
use Rattle.ras_logic.specs.declared.ids.SortId.{SortId}
use Rattle.ras_names.specs.Checks.{declared_checks, used_check, is_among}
use Rattle.ras_numbering.specs.Numbers.{number_in}
use Rattle.ras_scope.specs.Placing.{placed_name}
use Rattle.ras_scope.proofs.Following.{handed, faults_stay, answers_follow}
use Rattle.ras_declarations.proofs.NewNames.{name_new, used_known}
use Rattle.ras_declarations.proofs.Answered.{if_ok-to, on_ok, passes-if_ok}
use Rattle.ras_scope.proofs.Places.{number_is}
use Rattle.ras_declarations.proofs.declarations.read_sorted.Goals as goal

pub returns-in_err-check_name-clause-checks : goal.returns-in_err-check_name-clause-checks
returns-in_err-check_name-clause-checks c =
    let one = declared_checks c.args.limit c.args.count c.args.names.now (placed_name c.args.name.now) in
    let two = used_check c.args.sorts.now (placed_name c.args.sort.now) ∷ [] in
    handed (one ++ two) c.from_residual.result c.in_err-check_name.field-0.0 c.from_residual.ensures.1 (faults_stay one two c.in_err-check_name.field-0.0 c.in_err-check_name.ensures)

pub returns : goal.returns
returns c =
    let one = declared_checks c.args.limit c.args.count c.args.names.now (placed_name c.args.name.now) in
    let two = used_check c.args.sorts.now (placed_name c.args.sort.now) ∷ [] in
    let sorts = c.args.sorts.now in
    let name = c.args.sort.now.text in
    record {
      checks = answers_follow one two c.find_sort.result c.in_ok-check_name.ensures c.find_sort.ensures.checks;
      value = if_ok-to (λ (s : SortId). s ≡ record { n = number_in sorts name }) c.find_sort.result (λ s h. λ i. record { n = number_is sorts name s.n h i }) c.find_sort.ensures.number;
      known = passes-if_ok (is_among sorts name ≡ true) two c.find_sort.result (used_known sorts (placed_name c.args.sort.now)) c.find_sort.ensures.checks;
      new = on_ok (is_among c.args.names.now c.args.name.now.text ≡ false) c.find_sort.result (name_new c.args.limit c.args.count c.args.names.now (placed_name c.args.name.now) c.in_ok-check_name.ensures);
    }
