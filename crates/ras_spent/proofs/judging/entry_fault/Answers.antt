use Rattle.std.proofs.Common.{◌≡◌, subst, rules}
use Rattle.ras_logic.specs.declared.raw_db.RawDb.{RawDb}
use Rattle.ras_spent.specs.declared.spent_fault.EntryFault.{EntryFault}
use Rattle.ras_spent.specs.Entries.{MeetsNoEntry, LeadsToGoal, StartsWell, IsGoodEntry}
use Rattle.ras_spent.specs.EntryFaults.{IsRunFault, IsEntryFault}
use Rattle.ras_spent.proofs.MetEntries.{none_as, some_as, run_told}
use Rattle.ras_spent.proofs.judging.entry_fault.Goals as goal

pub returns-then-not-state_fits-clause-fault : goal.returns-then-not-state_fits-clause-fault
returns-then-not-state_fits-clause-fault c =
    (record { formula = record { fits = search rules; away = search rules }; database = search rules }, search rules)

pub returns-then-not-branch-clause-fault : goal.returns-then-not-branch-clause-fault
returns-then-not-branch-clause-fault c =
    (record { placed = record { formula = record { fits = search rules; away = search rules }; database = search rules }; state = search rules }, search rules)

pub returns-in-Some-clause-fault : goal.returns-in-Some-clause-fault
returns-in-Some-clause-fault c = (
  record { placed = record { formula = record { fits = search rules; away = search rules }; database = search rules }; state = search rules },
  search rules,
  search rules,
)

pub returns-clause-good : goal.returns-clause-good
returns-clause-good c =
    let system = c.args.system.now in
    let e = c.args.entry.now in
    let same : c.in-Ok.db ≡ e.db = search rules in
    let none : MeetsNoEntry c.in-Ok.db e.run.start c.args.earlier.now = rw c.in_default.is at c.in_ok-number.ensures.none in
    let starts : StartsWell system c.args.earlier.now e =
    record {
      formula = record { fits = search rules; away = search rules };
      database = search rules;
      state = search rules;
      own = search rules;
      new = subst (λ (d : RawDb). MeetsNoEntry d e.run.start c.args.earlier.now) same none;
    } in
    none_as (LeadsToGoal system c.in-Ok.db e.run) (IsGoodEntry system c.args.earlier.now e)
    (λ leads. record { starts = starts; leads = subst (λ (d : RawDb). LeadsToGoal system d e.run) same leads }) c.run_fault.result c.run_fault.ensures.none

pub returns-clause-fault : goal.returns-clause-fault
returns-clause-fault c =
    let system = c.args.system.now in
    let e = c.args.entry.now in
    let same : c.in-Ok.db ≡ e.db = search rules in
    let none : MeetsNoEntry c.in-Ok.db e.run.start c.args.earlier.now = rw c.in_default.is at c.in_ok-number.ensures.none in
    let starts : StartsWell system c.args.earlier.now e =
    record {
      formula = record { fits = search rules; away = search rules };
      database = search rules;
      state = search rules;
      own = search rules;
      new = subst (λ (d : RawDb). MeetsNoEntry d e.run.start c.args.earlier.now) same none;
    } in
    some_as (IsRunFault system c.in-Ok.db e.run) (IsEntryFault system c.args.earlier.now e)
    (λ f h. run_told system c.args.earlier.now e starts f (subst (λ (d : RawDb). IsRunFault system d e.run f) same h)) c.run_fault.result c.run_fault.ensures.fault
