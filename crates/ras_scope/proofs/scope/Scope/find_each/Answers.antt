use Rattle.std.proofs.Common.{◌∙◌, sym}
use Rattle.ras_scope.proofs.EachRows.{each_found, each_named}
use Rattle.ras_scope.proofs.scope.Scope.find_each.Goals as goal

pub returns-then-eq-clause-known : goal.returns-then-eq-clause-known
returns-then-eq-clause-known c = each_found c.args.self.now.each c.in-Some.each c.args.name.now c.in-Some.is (sym c.eq.ensures ∙ c.if-eq.true)

pub returns-then-eq-clause-name : goal.returns-then-eq-clause-name
returns-then-eq-clause-name c = each_named c.args.self.now.each c.in-Some.each c.args.name.now c.in-Some.is (sym c.eq.ensures ∙ c.if-eq.true)
