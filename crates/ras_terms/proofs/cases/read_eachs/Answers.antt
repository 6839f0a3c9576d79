use Rattle.std.proofs.Common.{sym, ◌∙◌, map, take, subst}
use Rattle.ras_names.specs.Placed as placed
use Rattle.ras_names.specs.Checks.{for_each}
use Rattle.ras_names.specs.StepChecks.{each_checks, with_row}
use Rattle.ras_scope.specs.Placing.{placed_each}
use Rattle.ras_scope.specs.Seeing.{Sees, step_texts}
use Rattle.ras_scope.specs.declared.scope.Scope.{Scope}
use Rattle.ras_scope.proofs.Following.{handed}
use Rattle.ras_scope.proofs.Reading.{read_more}
use Rattle.ras_terms.proofs.ReadEachs.{row_seen, row_stops, cases_stop, each_more}
use Rattle.ras_terms.proofs.cases.read_eachs.Goals as goal

pub returns-in_err-row-clause-checks : goal.returns-in_err-row-clause-checks
returns-in_err-row-clause-checks c = λ seen sees.
    let names = step_texts c.args.scope.now in
    let xs = c.args.eachs.now in
    let n = c.loop-each.each-index in
    let all = map placed_each xs in
    let error = c.in_err-row.field-0.0 in
    let h = c.loop-each.invariant.read seen sees in
    handed (for_each (each_checks seen names all) all) c.from_residual.result error c.from_residual.ensures.1
    (row_stops seen names xs n c.each-item.result c.loop-each.bulk c.loop-each.relations.items c.loop-each-test.true c.each-item.is h error
    (c.in_err-row.ensures.checks seen (map placed_each (take n xs)) sees (c.as_slice.ensures.value ∙ h.above) h.known))

pub returns-in_err-read_each-clause-checks : goal.returns-in_err-read_each-clause-checks
returns-in_err-read_each-clause-checks c = λ seen sees.
    let names = step_texts c.args.scope.now in
    let xs = c.args.eachs.now in
    let n = c.loop-each.each-index in
    let all = map placed_each xs in
    let e = placed_each c.each-item.result in
    let error = c.in_err-read_each.field-0.0 in
    let h = c.loop-each.invariant.read seen sees in
    let is = c.in_ok-row.ensures.value seen sees in
    let inside = subst (λ (s : Scope). Sees s (with_row seen e)) (sym c.with_row-inside.ensures) (row_seen c.args.scope.now seen c.in_ok-row.row e sees c.requires is) in
    handed (for_each (each_checks seen names all) all) c.from_residual-in_err-read_each.result error c.from_residual-in_err-read_each.ensures.1
    (cases_stop seen names xs n c.each-item.result c.loop-each.bulk c.loop-each.relations.items c.loop-each-test.true c.each-item.is h error
    (c.in_ok-row.ensures.checks seen (map placed_each (take n xs)) sees (c.as_slice.ensures.value ∙ h.above) h.known)
    (c.in_err-read_each.ensures.checks (with_row seen e) inside is))

pub loop-each-preserved : goal.loop-each-preserved
loop-each-preserved c =
    let xs = c.args.eachs.now in
    let n = c.loop-each.each-index in
    let e = placed_each c.each-item.result in record {
      rows = c.in_ok-push-2.ensures.ok
          ∙ read_more placed_each (λ (d : placed.Each). d.row.text) xs n c.each-item.result c.loop-each.rows c.in_ok-row.row.name c.loop-each-test.true c.each-item.is c.loop-each.invariant.rows c.in_ok-row.ensures.name;
      read = λ seen sees.
          let names = step_texts c.args.scope.now in
          let h = c.loop-each.invariant.read seen sees in
          let is = c.in_ok-row.ensures.value seen sees in
          let inside = subst (λ (s : Scope). Sees s (with_row seen e)) (sym c.with_row-inside.ensures) (row_seen c.args.scope.now seen c.in_ok-row.row e sees c.requires is) in
          each_more seen names xs n c.each-item.result c.loop-each.bulk c.loop-each.relations.items c.loop-each-test.true c.each-item.is h c.read_each.new.bulk c.push.new.self.items c.in_ok-row.row.relation
          (c.in_ok-row.ensures.checks seen (map placed_each (take n xs)) sees (c.as_slice.ensures.value ∙ h.above) h.known)
          (c.in_ok-read_each.ensures.checks (with_row seen e) inside is) (c.in_ok-read_each.ensures.value (with_row seen e) inside is) c.in_ok-push.ensures.items is.relation is.known;
    }
