use Rattle.std.proofs.Common.{sym}
use Rattle.ras_scope.specs.Scopes.{each_names}
use Rattle.ras_scope.specs.Seeing.{each_relations}
use Rattle.ras_scope.proofs.Places.{finds_front, finds_behind}
use Rattle.ras_scope.proofs.scope.Scope.row.Goals as goal

pub returns-in-Some-clause-found : goal.returns-in-Some-clause-found
returns-in-Some-clause-found c =
    let s = c.args.self.now in
    finds_front s.rows.now.names (each_names s.each) s.rows.now.values.items (each_relations s.each) c.args.name.now.text c.in-Some.found c.in-Some.ensures.found

pub returns-in-Some-find_each-clause-found : goal.returns-in-Some-find_each-clause-found
returns-in-Some-find_each-clause-found c =
    let s = c.args.self.now in
    let e = c.in-Some-find_each.ensures in
    finds_behind s.rows.now.names (each_names s.each) s.rows.now.values.items (each_relations s.each) c.args.name.now.text c.in-Some-find_each.found
    (sym c.in_default.ensures.known) s.rows.now.as_long e.number e.name e.relation
