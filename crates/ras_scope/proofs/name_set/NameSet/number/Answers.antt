use Rattle.std.proofs.Common.{◌∙◌, ap}
use Rattle.std.specs.Prelude.{is_some}
use Rattle.ras_scope.proofs.SameTexts.{place_known}
use Rattle.ras_scope.proofs.name_set.NameSet.number.Goals as goal

pub returns-in-Some-clause-known : goal.returns-in-Some-clause-known
returns-in-Some-clause-known c = ap is_some c.in-Some.ensures.place ∙ place_known c.args.name.now c.args.self.now

pub returns-in-None-clause-known : goal.returns-in-None-clause-known
returns-in-None-clause-known c = ap is_some c.in-None.ensures.place ∙ place_known c.args.name.now c.args.self.now
