use Rattle.ras_scope.proofs.SeenNames.{var_sort}
use Rattle.ras_scope.proofs.scope.Scope.target.Goals as goal

pub returns-in-Some-find-clause-sort : goal.returns-in-Some-find-clause-sort
returns-in-Some-find-clause-sort c = λ seen sees.
    rw c.in-None.is (var_sort c.args.self.now seen sees c.args.name.now.text c.in-Some-find.n c.in-Some-find.sort c.in-Some-find.ensures.found)
