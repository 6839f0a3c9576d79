use Rattle.std.proofs.Common.{◌≡◌, ◌++◌, false}
use Rattle.ras_names.specs.Placed.{columns}
use Rattle.ras_names.specs.Checks.{for_each, is_among, declared_checks}
use Rattle.ras_names.specs.FileChecks.{column_checks}
use Rattle.ras_scope.specs.Placing.{placed_name, placed_relation}
use Rattle.ras_scope.proofs.Following.{handed, faults_stay, answers_follow}
use Rattle.ras_declarations.proofs.NewNames.{name_new}
use Rattle.ras_declarations.proofs.Answered.{on_ok}
use Rattle.ras_declarations.proofs.declarations.read_relation.Goals as goal

pub returns-in_err-check_name-clause-checks : goal.returns-in_err-check_name-clause-checks
returns-in_err-check_name-clause-checks c = λ p all.
    let cs = columns (placed_relation c.args.relation.now) in
    let first = declared_checks 16 c.args.count c.args.shared.now (placed_name c.args.relation.now.name) in
    let e = c.in_err-check_name.field-0.0 in
    handed (first ++ for_each (column_checks p cs) cs) c.from_residual.result e c.from_residual.ensures.1 (faults_stay first (for_each (column_checks p cs) cs) e c.in_err-check_name.ensures)

pub returns : goal.returns
returns c =
    let cs = columns (placed_relation c.args.relation.now) in
    let name = placed_name c.args.relation.now.name in
    let first = declared_checks 16 c.args.count c.args.shared.now name in
    record {
      checks = λ p all. answers_follow first (for_each (column_checks p cs) cs) c.read_columns.result c.in_ok-check_name.ensures (c.read_columns.ensures.checks p all);
      names = c.read_columns.ensures.names;
      values = c.read_columns.ensures.values;
      sorts = c.read_columns.ensures.sorts;
      new = on_ok (is_among c.args.shared.now name.text ≡ false) c.read_columns.result (name_new 16 c.args.count c.args.shared.now name c.in_ok-check_name.ensures);
    }
