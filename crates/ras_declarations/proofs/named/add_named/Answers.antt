use Rattle.std.proofs.Common.{◌≡◌, List, [], ◌∷◌, ◌++◌, length, sym, ◌∙◌, ap, subst}
use Rattle.ras_syntax.specs.Grammar.{Text}
use Rattle.ras_names.specs.Placed.{Name}
use Rattle.ras_names.specs.Checks.{Check, is_among, declared_checks, used_check}
use Rattle.ras_names.proofs.Passing.{Passes, pass_both}
use Rattle.ras_numbering.specs.Numbers.{number_in}
use Rattle.ras_scope.specs.Answering.{Faults}
use Rattle.ras_scope.specs.Placing.{placed_name}
use Rattle.ras_scope.proofs.Following.{handed, faults_stay, faults_follow}
use Rattle.ras_declarations.proofs.NewNames.{name_new, used_known, none_behind}
use Rattle.ras_scope.proofs.Places.{number_is}
use Rattle.ras_declarations.proofs.named.add_named.Goals as goal

pub returns-in_err-check_new-clause-checks : goal.returns-in_err-check_new-clause-checks
returns-in_err-check_new-clause-checks g c =
    let d = g.N.Named.placed c.args.item.now in
    let above : List Text = c.args.naming.now.above.now ++ c.args.naming.now.more.now in
    let names = c.args.table.now.names in
    let limit = c.args.naming.now.limit in
    let e = c.in_err-check_new.field-0.0 in
    let first = declared_checks limit (length names) (above ++ names) d.name in
    let used = used_check c.args.naming.now.used.now d.of ∷ [] in
    handed (first ++ used) c.from_residual.result e c.from_residual.ensures.1
    (faults_stay first used e
    (subst (λ (cs : List Check). Faults cs e) (λ i. declared_checks limit (length (c.names.ensures i)) (above ++ c.names.ensures i) (c.name-name.ensures i)) c.in_err-check_new.ensures))

pub returns-in_err-number-clause-checks : goal.returns-in_err-number-clause-checks
returns-in_err-number-clause-checks g c =
    let d = g.N.Named.placed c.args.item.now in
    let above : List Text = c.args.naming.now.above.now ++ c.args.naming.now.more.now in
    let names = c.args.table.now.names in
    let limit = c.args.naming.now.limit in
    let e = c.in_err-number.field-0.0 in
    let first = declared_checks limit (length names) (above ++ names) d.name in
    let used = used_check c.args.naming.now.used.now d.of ∷ [] in
    let pass : Passes first = subst Passes (λ i. declared_checks limit (length (c.names.ensures i)) (above ++ c.names.ensures i) (c.name-name.ensures i)) c.in_ok-check_new.ensures in
    handed (first ++ used) c.from_residual-in_err-number.result e c.from_residual-in_err-number.ensures.1
    (faults_follow first used e pass (subst (λ (n : Name). Faults (used_check c.args.naming.now.used.now n ∷ []) e) c.of.ensures c.in_err-number.ensures.checks))

pub add-requires : goal.add-requires
add-requires g c =
    let above : List Text = c.args.naming.now.above.now ++ c.args.naming.now.more.now in
    let name = c.name-name.result.now in
    let names = c.names.result.now in
    ap (λ (ts : List Text). is_among ts name.text) (sym c.names.ensures)
    ∙ none_behind above names name.text (name_new c.args.naming.now.limit (length names) (above ++ names) (placed_name name) c.in_ok-check_new.ensures)

pub returns : goal.returns
returns g c =
    let d = g.N.Named.placed c.args.item.now in
    let above : List Text = c.args.naming.now.above.now ++ c.args.naming.now.more.now in
    let table = c.args.table.now in
    let names = table.names in
    let limit = c.args.naming.now.limit in
    let others = c.args.naming.now.used.now in
    let first = declared_checks limit (length names) (above ++ names) d.name in
    let used = used_check others d.of ∷ [] in
    let pass : Passes first = subst Passes (λ i. declared_checks limit (length (c.names.ensures i)) (above ++ c.names.ensures i) (c.name-name.ensures i)) c.in_ok-check_new.ensures in
    let known : Passes used = subst (λ (n : Name). Passes (used_check others n ∷ [])) c.of.ensures c.in_ok-number.ensures.checks in
    let number : c.in_ok-number.number ≡ number_in others d.of.text =
    number_is others c.of.result.now.text c.in_ok-number.number c.in_ok-number.ensures.number ∙ ap (λ (n : Name). number_in others n.text) c.of.ensures in
    record {
      checks = pass_both first used pass known;
      names = c.in_ok-add.ensures.names ∙ ap (λ (n : Name). names ++ n.text ∷ []) c.name-name.ensures;
      values = c.in_ok-add.ensures.values ∙ ap (λ v. table.values.items ++ v ∷ []) (c.with_number.ensures ∙ ap g.T.Numbered.with_number number);
      known = used_known others d.of known;
    }
