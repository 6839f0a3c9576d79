use Rattle.std.proofs.Common.{◌∙◌}
use Rattle.ras_scope.proofs.SameTexts.{same_position}
use Rattle.ras_scope.proofs.name_set.NameSet.place.Goals as goal

pub returns-clause-place : goal.returns-clause-place
returns-clause-place c = c.get_index_of.ensures.index ∙ same_position c.self.inside.names.keys c.args.self.now c.args.name.now c.self.view_is
