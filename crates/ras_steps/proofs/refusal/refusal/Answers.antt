use Rattle.std.proofs.Common.{refl}
use Rattle.ras_system.specs.States.{AreRows}
use Rattle.ras_logic.specs.Truth.{AreElements}
use Rattle.ras_steps.proofs.Refusals.{rows_from, values_from}
use Rattle.ras_steps.proofs.refusal.refusal.Goals as goal

pub returns-in-Some-value_outside-clause-first : goal.returns-in-Some-value_outside-clause-first
returns-in-Some-value_outside-clause-first c =
    let counts = c.if-not-has_counts.ensures.0 refl in
    (counts, rows_from c.args.state.now c.args.transition.now c.args.choice.now counts c.in_default.ensures.none c.in_default-row_repeated.ensures.none, c.in-Some-value_outside.ensures.first)

pub returns-then-not-passes_guard-clause-first : goal.returns-then-not-passes_guard-clause-first
returns-then-not-passes_guard-clause-first c =
    let counts = c.if-not-has_counts.ensures.0 refl in (
      rows_from c.args.state.now c.args.transition.now c.args.choice.now counts c.in_default.ensures.none c.in_default-row_repeated.ensures.none,
      values_from c.args.db.now c.args.transition.now c.args.choice.now counts c.in_default-value_outside.ensures.none,
      λ holds. absurd (let both = c.if-not-passes_guard.ensures.1 holds in cc),
    )

pub returns-clause-none : goal.returns-clause-none
returns-clause-none c =
    let counts = c.if-not-has_counts.ensures.0 refl in
    record {
      rows = rows_from c.args.state.now c.args.transition.now c.args.choice.now counts c.in_default.ensures.none c.in_default-row_repeated.ensures.none;
      params = values_from c.args.db.now c.args.transition.now c.args.choice.now counts c.in_default-value_outside.ensures.none;
      guard = c.if-not-passes_guard.ensures.0 refl;
    }
