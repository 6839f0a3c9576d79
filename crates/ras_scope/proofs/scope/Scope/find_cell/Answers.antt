use Rattle.ras_names.specs.TermChecks.{cell_checks}
use Rattle.ras_scope.specs.Placing.{placed_name}
use Rattle.ras_scope.proofs.Following.{handed}
use Rattle.ras_scope.proofs.SeenNames.{cell_faults, cell_passes, column_number_is, column_sort}
use Rattle.ras_scope.proofs.scope.Scope.find_cell.Goals as goal

pub returns-in_err-n-clause-checks : goal.returns-in_err-n-clause-checks
returns-in_err-n-clause-checks c = λ seen sees.
    let row = placed_name c.args.row.now in
    let column = placed_name c.args.column.now in
    handed (cell_checks seen row column) c.from_residual-in_err-n.result c.in_err-n.field-0.0 c.from_residual-in_err-n.ensures.1
    (cell_faults c.args.self.now seen sees row column (c.in_ok-m.m, c.in_ok-m.relation) c.in_err-n.field-0.0 c.in_ok-m.ensures.found c.in_ok-m.ensures.checks c.in_err-n.ensures.checks)

pub returns-clause-checks : goal.returns-clause-checks
returns-clause-checks c = λ seen sees.
    cell_passes c.args.self.now seen sees (placed_name c.args.row.now) (placed_name c.args.column.now) (c.in_ok-m.m, c.in_ok-m.relation)
    c.in_ok-m.ensures.found c.in_ok-m.ensures.checks c.in_ok-n.ensures.checks

pub returns-clause-column : goal.returns-clause-column
returns-clause-column c = λ seen sees.
    column_number_is c.args.self.now seen sees (placed_name c.args.row.now) (placed_name c.args.column.now) (c.in_ok-m.m, c.in_ok-m.relation) c.in_ok-n.n c.in_ok-n.sort
    c.in_ok-m.ensures.found c.in_ok-n.ensures.found

pub returns-clause-sort : goal.returns-clause-sort
returns-clause-sort c = λ seen sees.
    column_sort c.args.self.now seen sees (placed_name c.args.row.now) (placed_name c.args.column.now) (c.in_ok-m.m, c.in_ok-m.relation) c.in_ok-n.n c.in_ok-n.sort
    c.in_ok-m.ensures.found c.in_ok-n.ensures.found
