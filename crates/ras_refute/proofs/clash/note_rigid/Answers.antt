use Rattle.std.proofs.Common.{◌≡◌, true, false, sym, ◌∙◌}
use Rattle.ras_refute.specs.Clashing.{IsRigid}
use Rattle.ras_refute.proofs.Naming.{named-passed, named-first, named-again, named-distinct}
use Rattle.ras_refute.proofs.clash.note_rigid.Goals as goal

true_false : true ≡ false → ⊥
true_false e = cc

pub returns-in_default-clause-named : goal.returns-in_default-clause-named
returns-in_default-clause-named c =
    named-passed c.args.table.now.entries c.args.classes.now c.args.named.now c.args.i c.requires.named c.args.entry c.requires.here
    (sym c.as_rigid.ensures ∙ c.in_default.is)

pub returns-in-None-clause-named : goal.returns-in-None-clause-named
returns-in-None-clause-named c =
    let here : IsRigid c.args.table.now.entries c.args.i c.in-Some.rigid =
    record { entry = c.args.entry; is = c.requires.here; rigid = sym c.as_rigid.ensures ∙ c.in-Some.is } in
    named-first c.args.table.now.entries c.args.classes.now c.args.named.now c.args.i c.requires.named c.in-Some.rigid c.requires.bounded here c.in-None.is

pub returns-then-are_same-clause-named : goal.returns-then-are_same-clause-named
returns-then-are_same-clause-named c =
    let here : IsRigid c.args.table.now.entries c.args.i c.in-Some.rigid =
    record { entry = c.args.entry; is = c.requires.here; rigid = sym c.as_rigid.ensures ∙ c.in-Some.is } in
    named-again c.args.table.now.entries c.args.classes.now c.args.named.now c.args.i c.requires.named c.in-Some.rigid c.in-Some-named.other here
    c.in-Some-named.is (c.are_same.ensures.0 c.if-are_same.true)

pub returns-else-are_same-clause-distinct : goal.returns-else-are_same-clause-distinct
returns-else-are_same-clause-distinct c =
    let here : IsRigid c.args.table.now.entries c.args.i c.in-Some.rigid =
    record { entry = c.args.entry; is = c.requires.here; rigid = sym c.as_rigid.ensures ∙ c.in-Some.is } in
    named-distinct c.args.table.now.entries c.args.classes.now c.args.named.now c.args.i c.requires.named c.in-Some.rigid c.in-Some-named.other here
    c.in-Some-named.is (λ e. true_false (sym (c.are_same.ensures.1 e) ∙ c.if-are_same.false))
