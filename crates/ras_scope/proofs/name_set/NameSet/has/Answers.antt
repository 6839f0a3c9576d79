use Rattle.std.proofs.Common.{◌∙◌}
use Rattle.ras_scope.proofs.SameTexts.{same_among}
use Rattle.ras_scope.proofs.name_set.NameSet.has.Goals as goal

pub returns : goal.returns
returns c = c.contains.ensures ∙ same_among c.self.inside.names.keys c.args.self.now c.args.name.now c.self.view_is
