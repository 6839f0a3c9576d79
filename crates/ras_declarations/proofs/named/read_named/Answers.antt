use Rattle.std.proofs.Common.{List, [], ◌++◌, map, ◌∙◌, ap}
use Rattle.ras_syntax.specs.Grammar.{Text}
use Rattle.ras_names.specs.Placed.{Declared as Item}
use Rattle.ras_names.specs.Checks.{for_each, declared_texts}
use Rattle.ras_numbering.specs.Numbers.{number_in}
use Rattle.ras_declarations.specs.Naming.{named_checks}
use Rattle.ras_scope.proofs.Following.{handed}
use Rattle.ras_declarations.proofs.named.read_named.Goals as goal

pub returns-in_err-add_all_named-clause-checks : goal.returns-in_err-add_all_named-clause-checks
returns-in_err-add_all_named-clause-checks g c =
    let all = map g.N.Named.placed c.args.items.now in
    let e = c.in_err-add_all_named.field-0.0 in
    handed (for_each (named_checks c.args.naming.now.limit (c.args.naming.now.above.now ++ c.args.naming.now.more.now) c.args.naming.now.used.now all) all) c.from_residual.result e c.from_residual.ensures.1
    (c.in_err-add_all_named.ensures.checks [] c.new-table.ensures.names)

pub returns : goal.returns
returns g c = record {
  checks = c.in_ok-add_all_named.ensures.checks [] c.new-table.ensures.names;
  names = c.in_ok-add_all_named.ensures.names ∙ ap (λ (ts : List Text). ts ++ declared_texts (map g.N.Named.placed c.args.items.now)) c.new-table.ensures.names;
  values = c.in_ok-add_all_named.ensures.values ∙ ap (λ vs. vs ++ map (λ (d : Item). g.T.Numbered.with_number (number_in c.args.naming.now.used.now d.of.text)) (map g.N.Named.placed c.args.items.now)) c.new-table.ensures.values;
  known = c.in_ok-add_all_named.ensures.known;
}
