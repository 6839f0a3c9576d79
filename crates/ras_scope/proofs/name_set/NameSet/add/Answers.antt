use Rattle.std.proofs.Common.{◌∙◌, rules}
use Rattle.ras_scope.proofs.SameTexts.{inserted}
use Rattle.ras_scope.proofs.name_set.NameSet.add.Goals as goal
use Rattle.ras_scope.proofs.name_set.NameSet.add.Goals.{in-Ok, in-Err}

pub returns-clause-ok : goal.returns-clause-ok
returns-clause-ok c = elim c.match-insert.branch [ in-Ok w ↦ rw w.result-is (w.in-Ok.ensures.keys ∙ inserted c.self.inside.names.keys c.args.self.now c.args.name c.self.view_is c.requires) | in-Err w ↦ rw w.result-is (search rules) ]
