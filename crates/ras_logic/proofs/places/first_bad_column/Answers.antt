use Rattle.std.proofs.Common.{◌≤◌, ◌+◌, length, List, arith, sym, ap, subst, All, length-append}
use Rattle.ras_logic.specs.declared.ids.SortId.{SortId}
use Rattle.ras_logic.specs.Places.{IsFirstBad}
use Rattle.ras_logic.specs.Schemas.{IsSort}
use Rattle.ras_logic.proofs.AllSteps.{all_step}
use Rattle.ras_logic.proofs.Columns.{all_columns-more, first_in_all}
use Rattle.ras_logic.proofs.places.first_bad_column.Goals as goal

pub returns-in-Some-clause-first : goal.returns-in-Some-clause-first
returns-in-Some-clause-first c =
    first_in_all (IsSort c.args.sorts) c.args.relations.now c.loop-columns.columns-index c.columns-item.result c.loop-columns.before c.in-Some.place
    c.loop-columns-test.true c.columns-item.is c.loop-columns.invariant.good c.loop-columns.invariant.counted
    (subst (λ (columns : List SortId). IsFirstBad (IsSort c.args.sorts) columns c.in-Some.place) c.as_slice.ensures.items c.in-Some.ensures.first)

pub loop-columns-preserved : goal.loop-columns-preserved
loop-columns-preserved c =
    let more = all_columns-more c.args.relations.now c.loop-columns.columns-index c.columns-item.result c.loop-columns-test.true c.columns-item.is in
    let narrow : length c.columns-item.result ≤ 32 = subst (λ (columns : List SortId). length columns ≤ 32) (sym c.columns-item.is)
    (c.requires.widths c.loop-columns.columns-index c.columns-item.result c.loop-columns-test.true) in
    record {
      good = all_step (All (IsSort c.args.sorts)) c.args.relations.now c.loop-columns.columns-index c.columns-item.result c.loop-columns-test.true c.columns-item.is
          c.loop-columns.invariant.good (subst (All (IsSort c.args.sorts)) c.as_slice.ensures.items c.in_default.ensures.none);
      counted = rw (more, length-append, ← c.loop-columns.invariant.counted) (ap (λ n. c.loop-columns.before + n) c.len.ensures.count);
      few = let count = c.len.ensures.count in let few = c.loop-columns.invariant.few in omega (arith, count, few, narrow);
    }
