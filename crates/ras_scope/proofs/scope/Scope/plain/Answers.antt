use Rattle.std.proofs.Common.{sym}
use Rattle.ras_scope.proofs.SeenNames.{constant_found, var_found, param_found}
use Rattle.ras_scope.proofs.scope.Scope.plain.Goals as goal

pub returns-in-Some-clause-sort : goal.returns-in-Some-clause-sort
returns-in-Some-clause-sort c = λ seen sees.
    (constant_found c.args.self.now seen sees c.args.name.now.text c.in-Some.n c.in-Some.sort c.in-Some.ensures.found).sorted

pub returns-in-Some-find-clause-value : goal.returns-in-Some-find-clause-value
returns-in-Some-find-clause-value c = λ seen sees.
    (var_found c.args.self.now seen sees c.args.name.now.text c.in-Some-find.n c.in-Some-find.sort (sym c.in_default.ensures.known) c.in-Some-find.ensures.found).value

pub returns-in-Some-find-clause-sort : goal.returns-in-Some-find-clause-sort
returns-in-Some-find-clause-sort c = λ seen sees.
    (var_found c.args.self.now seen sees c.args.name.now.text c.in-Some-find.n c.in-Some-find.sort (sym c.in_default.ensures.known) c.in-Some-find.ensures.found).sorted

pub returns-in-Some-find-2-clause-value : goal.returns-in-Some-find-2-clause-value
returns-in-Some-find-2-clause-value c = λ seen sees.
    (param_found c.args.self.now seen sees c.args.name.now.text c.in-Some-find-2.n c.in-Some-find-2.sort (sym c.in_default.ensures.known) (sym c.in_default-find.ensures.known)
    c.in-Some-find-2.ensures.found).value

pub returns-in-Some-find-2-clause-sort : goal.returns-in-Some-find-2-clause-sort
returns-in-Some-find-2-clause-sort c = λ seen sees.
    (param_found c.args.self.now seen sees c.args.name.now.text c.in-Some-find-2.n c.in-Some-find-2.sort (sym c.in_default.ensures.known) (sym c.in_default-find.ensures.known)
    c.in-Some-find-2.ensures.found).sorted
