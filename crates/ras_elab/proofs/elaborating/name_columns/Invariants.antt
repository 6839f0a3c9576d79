use Rattle.std.proofs.Common.{◌≡◌, take}
use Rattle.ras_scope.specs.Agreeing.{sorts_of_columns}
use Rattle.ras_elab.specs.Elaborating.{named_columns}
use Rattle.ras_elab.proofs.elaborating.name_columns.Given as goal

abbrev pub invariant-loop-i : goal.invariant-loop-i
invariant-loop-i l = record {
  sorts : l.relations.sorts ≡ sorts_of_columns (take l.i l.columns);
  names : l.relations.names ≡ named_columns (take l.i l.names) (take l.i l.columns);
}
