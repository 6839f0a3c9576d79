use Rattle.std.proofs.Common.{refl, ap, ◌∙◌, arith, inl, inr}
use Rattle.ras_core.specs.declared.origin.Origin.{Origin}
use Rattle.ras_store.specs.Stores.{with_spill}
use Rattle.ras_store.proofs.Justified.{admit_allowed, spill_allowed}
use Rattle.ras_store.proofs.Answered.{full}
use Rattle.ras_store.proofs.store.Store.admit.Goals as goal

pub enter-requires-clause-allowed : goal.enter-requires-clause-allowed
enter-requires-clause-allowed c =
    rw c.origin.ensures
    (admit_allowed c.args.self.now c.known.ensures c.args.site.now c.args.cube c.args.witness c.if-has_hit.ensures.no_hit c.in_default.ensures.none
    (let lt = c.if-count-budget.true in let n = c.count.ensures in let b = c.budget-budget.ensures in omega (arith, lt, n, b)) c.requires.comes c.requires.tight c.requires.not_initial
    (record { is = c.requires.witness; new = (rw c.in_default-2.is at c.in_ok-number.ensures.none).none }))

pub overflow-requires-clause-allowed : goal.overflow-requires-clause-allowed
overflow-requires-clause-allowed c =
    rw c.origin-then-not-has_spill.ensures
    (spill_allowed c.args.self.now c.known.ensures c.args.site.now c.args.cube c.args.witness c.if-has_hit.ensures.no_hit c.in_default.ensures.none c.if-not-has_spill.ensures.no_spill
    (full c.args.self.now c.known.ensures (let le = c.if-count-budget.false in let n = c.count.ensures in let b = c.budget-budget.ensures in omega (arith, le, n, b)))
    c.requires.comes c.requires.tight c.requires.not_initial
    (record { is = c.requires.witness; new = (rw c.in_default-2.is at c.in_ok-number.ensures.none).none }))

pub returns-in_ok-overflow-clause-ok : goal.returns-in_ok-overflow-clause-ok
returns-in_ok-overflow-clause-ok c = record {
  may = record { no_hit = c.if-has_hit.ensures.no_hit; good = c.in_default.ensures.none };
  new_to = rw c.in_default-2.is at c.in_ok-number.ensures.none;
  full = full c.args.self.now c.known.ensures (let le = c.if-count-budget.false in let n = c.count.ensures in let b = c.budget-budget.ensures in omega (arith, le, n, b));
  is = c.budget-budget.ensures;
  event = inl (
    c.if-not-has_spill.ensures.no_spill,
    c.in_ok-overflow.ensures.ok
        ∙ ap (λ (o : Origin). with_spill c.args.self.now o c.args.cube c.args.witness) c.origin-then-not-has_spill.ensures,
  );
}

pub returns-else-not-has_spill-clause-ok : goal.returns-else-not-has_spill-clause-ok
returns-else-not-has_spill-clause-ok c = record {
  may = record { no_hit = c.if-has_hit.ensures.no_hit; good = c.in_default.ensures.none };
  new_to = rw c.in_default-2.is at c.in_ok-number.ensures.none;
  full = full c.args.self.now c.known.ensures (let le = c.if-count-budget.false in let n = c.count.ensures in let b = c.budget-budget.ensures in omega (arith, le, n, b));
  is = c.budget-budget.ensures;
  event = inr (c.if-not-has_spill.ensures.spill, refl);
}
