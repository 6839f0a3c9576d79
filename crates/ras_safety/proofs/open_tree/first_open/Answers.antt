use Rattle.std.proofs.Common.{◌≡◌, refl, sym, subst}
use Rattle.std.specs.Prelude.{Option, Some, None}
use Rattle.ras_logic.specs.Shapes.{ShapeParts}
use Rattle.ras_logic.specs.Refutations.{Closes}
use Rattle.ras_refute.specs.Faults.{IsTreeFault}
use Rattle.ras_system.specs.Obligations.{Obligation, with_formulas}
use Rattle.ras_safety.specs.declared.open_tree.OpenTree.{OpenTree}
use Rattle.ras_safety.specs.Judging.{JudgesNext}
use Rattle.ras_safety.proofs.Openings.{still-open, next-closed, next-open}
use Rattle.ras_safety.proofs.open_tree.first_open.Goals as goal

none-of : (o : Option OpenTree) → ((x : OpenTree) → o ≡ Some x → ⊥) → o ≡ None
none-of None none = refl
none-of (Some x) none = absurd (none x refl)

pub returns-in-Some : goal.returns-in-Some
returns-in-Some c =
    subst (λ (before : Option OpenTree). JudgesNext c.args.system.now (with_formulas c.args.formulas.now c.args.premise.now) c.args.tree.now c.args.number before (Some c.in-Some.first))
    (sym c.in-Some.is) (still-open c.args.system.now (with_formulas c.args.formulas.now c.args.premise.now) c.args.tree.now c.args.number c.in-Some.first)

pub returns-in-Ok : goal.returns-in-Ok
returns-in-Ok c =
    subst (λ (before : Option OpenTree). JudgesNext c.args.system.now (with_formulas c.args.formulas.now c.args.premise.now) c.args.tree.now c.args.number before None)
    (sym (none-of c.args.before c.in_default.not-Some))
    (next-closed c.args.system.now (with_formulas c.args.formulas.now c.args.premise.now) c.args.tree.now c.args.number
    (subst (λ (s : ShapeParts). Closes s.schema c.args.premise.now c.args.formulas.now c.args.tree.now.nodes) c.shape.ensures c.in-Ok.ensures.sound))

pub returns-in-Err-Fault : goal.returns-in-Err-Fault
returns-in-Err-Fault c =
    let here : IsTreeFault c.shape.result.now.schema c.args.premise.now c.args.formulas.now c.args.tree.now.nodes c.in-Err-Fault.fault =
    rw c.in-Err-Fault.field-0-is at c.in-Err-Fault.ensures.fault in
    subst (λ (before : Option OpenTree). JudgesNext c.args.system.now (with_formulas c.args.formulas.now c.args.premise.now) c.args.tree.now c.args.number before
    (Some (record { number = c.args.number; fault = c.in-Err-Fault.fault })))
    (sym (none-of c.args.before c.in_default.not-Some))
    (next-open c.args.system.now (with_formulas c.args.formulas.now c.args.premise.now) c.args.tree.now c.args.number c.in-Err-Fault.fault
    (subst (λ (s : ShapeParts). IsTreeFault s.schema c.args.premise.now c.args.formulas.now c.args.tree.now.nodes c.in-Err-Fault.fault) c.shape.ensures here))
