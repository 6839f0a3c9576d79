use Rattle.std.proofs.Common.{◌≡◌, ◌<◌, ◌≤◌, List, length, take, get_or, refl, sym, subst, arith}
use Rattle.std.specs.Prelude.{slice_get, Some}
use Rattle.std.proofs.lemmas.Option.{slice_get_read}
use Rattle.ras_evidence.specs.declared.value.Entry.{Entry}
use Rattle.ras_spent.specs.EntryFaults.{IsEntryFault, IsSpentFault}
use Rattle.ras_spent.specs.Entries.{IsGoodEntry}
use Rattle.ras_spent.proofs.GoodBelow.{AreGoodBelow, below_next, bad_entry, bad_spill, all_good}
use Rattle.ras_spent.proofs.judging.check_spent.Goals as goal

pub returns-in-Some-clause-fault : goal.returns-in-Some-clause-fault
returns-in-Some-clause-fault c =
    let same = c.as_slice-entries.ensures.items in
    let n = c.loop-number.number in
    let e : Entry = c.index-entries-number.result in
    let fault : IsEntryFault c.args.system.now (take n c.as_slice-entries.result.now) e c.in-Some.fault = rw c.in-Some.is at c.in_ok-fault.ensures.fault in
    bad_entry c.args.system.now c.args.entries.now c.args.spill.now n e c.in-Some.fault
    (subst (λ (es : List Entry). slice_get es n ≡ Some e) same
    (slice_get_read c.as_slice-entries.result.now (length c.as_slice-entries.result.now) n e refl c.loop-number-test.true c.index-entries-number.is))
    (subst (λ (es : List Entry). AreGoodBelow c.args.system.now es n) same c.loop-number.invariant)
    (subst (λ (es : List Entry). IsEntryFault c.args.system.now (take n es) e c.in-Some.fault) same fault)

pub loop-number-preserved : goal.loop-number-preserved
loop-number-preserved c =
    let n = c.loop-number.number in
    let e : Entry = c.index-entries-number.result in
    let good : IsGoodEntry c.args.system.now (take n c.as_slice-entries.result.now) e = rw c.in_default.is at c.in_ok-fault.ensures.good in
    below_next c.args.system.now c.as_slice-entries.result.now n e
    (slice_get_read c.as_slice-entries.result.now (length c.as_slice-entries.result.now) n e refl c.loop-number-test.true c.index-entries-number.is)
    c.loop-number.invariant good

pub returns-in-None-clause-good : goal.returns-in-None-clause-good
returns-in-None-clause-good c =
    let same = c.as_slice-entries.ensures.items in
    let le : length c.as_slice-entries.result.now ≤ c.loop-number.number = c.loop-number-test.false in
    let below : AreGoodBelow c.args.system.now c.as_slice-entries.result.now (length c.as_slice-entries.result.now) =
    λ k x lt known. c.loop-number.invariant k x (omega (arith, lt, le)) known in
    let good : IsGoodEntry c.args.system.now c.as_slice-entries.result.now c.args.spill.now = rw c.in-None.is at c.in_ok-entry_fault.ensures.good in
    all_good c.args.system.now c.args.entries.now c.args.spill.now
    (subst (λ (es : List Entry). AreGoodBelow c.args.system.now es (length es)) same below)
    (subst (λ (es : List Entry). IsGoodEntry c.args.system.now es c.args.spill.now) same good)

pub returns-in-Some-2-clause-fault : goal.returns-in-Some-2-clause-fault
returns-in-Some-2-clause-fault c =
    let same = c.as_slice-entries.ensures.items in
    let le : length c.as_slice-entries.result.now ≤ c.loop-number.number = c.loop-number-test.false in
    let below : AreGoodBelow c.args.system.now c.as_slice-entries.result.now (length c.as_slice-entries.result.now) =
    λ k x lt known. c.loop-number.invariant k x (omega (arith, lt, le)) known in
    let fault : IsEntryFault c.args.system.now c.as_slice-entries.result.now c.args.spill.now c.in-Some-2.fault = rw c.in-Some-2.is at c.in_ok-entry_fault.ensures.fault in
    subst (λ (es : List Entry). IsSpentFault c.args.system.now c.args.entries.now c.args.spill.now (record { entry = length es; fault = c.in-Some-2.fault })) (sym same)
    (bad_spill c.args.system.now c.args.entries.now c.args.spill.now c.in-Some-2.fault
    (subst (λ (es : List Entry). AreGoodBelow c.args.system.now es (length es)) same below)
    (subst (λ (es : List Entry). IsEntryFault c.args.system.now es c.args.spill.now c.in-Some-2.fault) same fault))
