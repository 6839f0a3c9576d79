use Rattle.ras_scope.specs.Placing.{placed_name}
use Rattle.ras_scope.proofs.UsedNames.{used_found, used_missing}
use Rattle.ras_scope.proofs.declared.Declared.column.Goals as goal

pub returns-in-Some-clause-checks : goal.returns-in-Some-clause-checks
returns-in-Some-clause-checks c = used_found _ (placed_name c.args.name.now) c.in-Some.ensures.known

pub returns-in-None-clause-checks : goal.returns-in-None-clause-checks
returns-in-None-clause-checks c = used_missing _ (placed_name c.args.name.now) c.fault.result c.in-None.ensures.known c.fault.ensures
