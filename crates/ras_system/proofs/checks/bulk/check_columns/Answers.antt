use Rattle.std.proofs.Common.{◌<◌, ℕ, nat_eq, false, refl, sym, ◌∙◌, subst, length-set}
use Rattle.std.proofs.lemmas.List.{get_or-replicate}
use Rattle.ras_system.specs.declared.bulk.Assign.{Assign}
use Rattle.ras_system.specs.SystemFaults.{column_checks, for_each}
use Rattle.ras_system.proofs.FirstFaults.{passed_more, passed_fault, found_answer}
use Rattle.ras_system.proofs.Marks.{mark_more, narrow_column, column_repeats, column_fresh}
use Rattle.ras_system.proofs.checks.bulk.check_columns.Goals as goal

pub loop-assign-init : goal.loop-assign-init
loop-assign-init c = record { passed = refl; as_long = refl; marks = λ column h. get_or-replicate 32 column false false h }

pub returns-then-seen-column : goal.returns-then-seen-column
returns-then-seen-column c =
    let narrow = narrow_column c.args.assigns.now c.loop-assign.assign-index c.assign-item.result c.requires c.loop-assign-test.true c.assign-item.is in
    found_answer (for_each (column_checks c.args.place c.args.assigns.now) c.args.assigns.now) c.fault.result _ c.fault.ensures
    (passed_fault (column_checks c.args.place c.args.assigns.now) c.args.assigns.now c.args.assigns.now c.loop-assign.assign-index c.assign-item.result _ refl
    c.loop-assign-test.true c.assign-item.is c.loop-assign.invariant.passed
    (column_repeats c.args.place c.args.assigns.now c.loop-assign.assign-index c.assign-item.result
    (sym (c.loop-assign.invariant.marks c.assign-item.result.column narrow) ∙ c.if-seen-column.true)))

pub loop-assign-preserved : goal.loop-assign-preserved
loop-assign-preserved c =
    let narrow = narrow_column c.args.assigns.now c.loop-assign.assign-index c.assign-item.result c.requires c.loop-assign-test.true c.assign-item.is in
    record {
      passed = passed_more (column_checks c.args.place c.args.assigns.now) c.args.assigns.now c.args.assigns.now c.loop-assign.assign-index c.assign-item.result refl
          c.loop-assign-test.true c.assign-item.is c.loop-assign.invariant.passed
          (column_fresh c.args.place c.args.assigns.now c.loop-assign.assign-index c.assign-item.result
          (sym (c.loop-assign.invariant.marks c.assign-item.result.column narrow) ∙ c.if-seen-column.false));
      as_long = simp length-set c.loop-assign.invariant.as_long;
      marks = λ column h. mark_more (λ (a : Assign). nat_eq a.column column) c.args.assigns.now c.args.assigns.now c.loop-assign.assign-index c.assign-item.result c.loop-assign.seen column
          c.assign-item.result.column refl c.loop-assign-test.true c.assign-item.is (subst (λ (n : ℕ). c.assign-item.result.column < n) (sym c.loop-assign.invariant.as_long) narrow)
          refl (c.loop-assign.invariant.marks column h);
    }
