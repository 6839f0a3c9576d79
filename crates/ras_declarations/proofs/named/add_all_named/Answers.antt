use Rattle.std.proofs.Common.{List, [], ◌∷◌, ◌++◌, length, map, take, sym, ◌∙◌, ap, subst, arith, append-nil}
use Rattle.std.specs.Prelude.{All}
use Rattle.std.proofs.lemmas.List.{map-append, take_all}
use Rattle.ras_syntax.specs.Grammar.{Text}
use Rattle.ras_names.specs.Placed.{Declared as Item}
use Rattle.ras_names.specs.Checks.{Check, for_each_from, declared_texts}
use Rattle.ras_names.proofs.Passing.{Passes}
use Rattle.ras_numbering.specs.Numbers.{number_in}
use Rattle.ras_scope.specs.Answering.{Faults}
use Rattle.ras_declarations.specs.Naming.{named_checks, IsOneOf}
use Rattle.ras_scope.proofs.Following.{handed, passed_none, passed_more, passed_stop, passed_end}
use Rattle.ras_declarations.proofs.NewNames.{all_push, pushed_behind}
use Rattle.ras_scope.proofs.Reading.{places_more}
use Rattle.ras_declarations.proofs.NamedParts.{key, same_named}
use Rattle.ras_declarations.proofs.named.add_all_named.Goals as goal

pub loop-item-init : goal.loop-item-init
loop-item-init g c = record {
  names = sym (append-nil c.args.table.now.names);
  values = sym (append-nil c.args.table.now.values.items);
  known = λ k d lt. absurd (omega (arith, lt));
  passed = λ before same.
      passed_none (length before) (named_checks c.args.naming.now.limit (c.args.naming.now.above.now ++ c.args.naming.now.more.now) c.args.naming.now.used.now (before ++ map g.N.Named.placed c.args.items.now)) g.N.Named.placed c.args.items.now;
}

pub returns-in_err-add_named-clause-checks : goal.returns-in_err-add_named-clause-checks
returns-in_err-add_named-clause-checks g c = λ before same.
    let xs = c.args.items.now in
    let i = c.loop-item.item-index in
    let item = c.item-item.result in
    let place = g.N.Named.placed in
    let e = c.in_err-add_named.field-0.0 in
    let above : List Text = c.args.naming.now.above.now ++ c.args.naming.now.more.now in
    let used = c.args.naming.now.used.now in
    let limit = c.args.naming.now.limit in
    let all = named_checks limit above used (before ++ map place xs) in
    let v = c.loop-item.invariant in
    let lt = c.loop-item-test.true in
    let alike = same_named limit above used place before xs i c.loop-item.table.names (place item) lt (v.names ∙ ap (λ (ts : List Text). ts ++ declared_texts (map place (take i xs))) same) in
    handed (for_each_from (length before) all (map place xs)) c.from_residual.result e c.from_residual.ensures.1
    (passed_stop (length before) all place xs i item e lt c.item-item.is (v.passed before same) (subst (λ (cs : List Check). Faults cs e) alike c.in_err-add_named.ensures.checks))

pub loop-item-preserved : goal.loop-item-preserved
loop-item-preserved g c =
    let xs = c.args.items.now in
    let i = c.loop-item.item-index in
    let item = c.item-item.result in
    let place = g.N.Named.placed in
    let above : List Text = c.args.naming.now.above.now ++ c.args.naming.now.more.now in
    let used = c.args.naming.now.used.now in
    let limit = c.args.naming.now.limit in
    let value = λ (d : Item). g.T.Numbered.with_number (number_in used d.of.text) in
    let v = c.loop-item.invariant in
    let lt = c.loop-item-test.true in
    let more = places_more place xs i item lt c.item-item.is in
    record {
      names = pushed_behind _ _ c.args.table.now.names _ _ _ c.in_ok-add_named.ensures.names v.names (sym (ap declared_texts more ∙ map-append key (map place (take i xs)) (place item ∷ [])));
      values = pushed_behind _ _ c.args.table.now.values.items _ _ _ c.in_ok-add_named.ensures.values v.values (sym (ap (map value) more ∙ map-append value (map place (take i xs)) (place item ∷ [])));
      known = subst (All (IsOneOf used)) (sym more) (all_push (IsOneOf used) (map place (take i xs)) (place item) v.known c.in_ok-add_named.ensures.known);
      passed = λ before same.
          let all = named_checks limit above used (before ++ map place xs) in
          let alike = same_named limit above used place before xs i c.loop-item.table.names (place item) lt (v.names ∙ ap (λ (ts : List Text). ts ++ declared_texts (map place (take i xs))) same) in
          passed_more (length before) all place xs i item lt c.item-item.is (v.passed before same) (subst Passes alike c.in_ok-add_named.ensures.checks);
    }

pub returns : goal.returns
returns g c =
    let xs = c.args.items.now in
    let i = c.loop-item.item-index in
    let place = g.N.Named.placed in
    let used = c.args.naming.now.used.now in
    let value = λ (d : Item). g.T.Numbered.with_number (number_in used d.of.text) in
    let v = c.loop-item.invariant in
    let le = c.loop-item-test.false in
    let whole = take_all i xs le in
    record {
      checks = λ before same.
          passed_end (length before) (named_checks c.args.naming.now.limit (c.args.naming.now.above.now ++ c.args.naming.now.more.now) used (before ++ map place xs)) place xs i le (v.passed before same);
      names = v.names ∙ ap (λ ys. c.args.table.now.names ++ declared_texts (map place ys)) whole;
      values = v.values ∙ ap (λ ys. c.args.table.now.values.items ++ map value (map place ys)) whole;
      known = subst (λ ys. All (IsOneOf used) (map place ys)) whole v.known;
    }
