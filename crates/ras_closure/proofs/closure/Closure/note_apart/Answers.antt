use Rattle.std.proofs.Common.{◌≡◌, ◌≢◌, ◌∙◌, sym, subst, refl, false, rules}
use Rattle.std.specs.Prelude.{Option, Some}
use Rattle.ras_closure.specs.declared.clash.Clash.{Clash}
use Rattle.ras_closure.specs.Classes.{class}
use Rattle.ras_closure.specs.Closures.{ClosureParts, IsNo, AreOfOneSort, AddsFact}
use Rattle.ras_closure.proofs.Closures.{marks-facts, closure-apart, closure-apart_clash}
use Rattle.ras_closure.proofs.closure.Closure.note_apart.Goals as goal

pub invariant_of-self : goal.invariant_of-self
invariant_of-self c =
    let old : ClosureParts = record { table = c.self.inside.table; marks = c.self.inside.marks; classes = c.self.inside.classes; clash = c.self.inside.clash } in
    let lt_left : IsNo old c.args.left = subst (λ (o : ClosureParts). IsNo o c.args.left) (sym c.self.view_is) c.requires.left in
    let lt_right : IsNo old c.args.right = subst (λ (o : ClosureParts). IsNo o c.args.right) (sym c.self.view_is) c.requires.right in
    let one_sort : AreOfOneSort old c.args.left c.args.right = subst (λ (o : ClosureParts). AreOfOneSort o c.args.left c.args.right) (sym c.self.view_is) c.requires.one_sort in
    let one : class old.classes c.args.left.n ≡ class old.classes c.args.right.n = sym c.of-left_class.ensures ∙ c.if-left_class-right_class.true ∙ c.of-right_class.ensures in
    (closure-apart_clash old c.known.ensures c.self.invariant.0 c.note.new.self false c.args.left c.args.right lt_left lt_right one_sort c.note.ensures refl one, c.self.invariant.1, c.self.invariant.2)

pub invariant_of-self-else-left_class-right_class : goal.invariant_of-self-else-left_class-right_class
invariant_of-self-else-left_class-right_class c =
    let old : ClosureParts = record { table = c.self.inside.table; marks = c.self.inside.marks; classes = c.self.inside.classes; clash = c.self.inside.clash } in
    let lt_left : IsNo old c.args.left = subst (λ (o : ClosureParts). IsNo o c.args.left) (sym c.self.view_is) c.requires.left in
    let lt_right : IsNo old c.args.right = subst (λ (o : ClosureParts). IsNo o c.args.right) (sym c.self.view_is) c.requires.right in
    let one_sort : AreOfOneSort old c.args.left c.args.right = subst (λ (o : ClosureParts). AreOfOneSort o c.args.left c.args.right) (sym c.self.view_is) c.requires.one_sort in
    let differ : class old.classes c.args.left.n ≢ class old.classes c.args.right.n = λ h. c.if-left_class-right_class.false (c.of-left_class.ensures ∙ h ∙ sym c.of-right_class.ensures) in
    (closure-apart old c.known.ensures c.self.invariant.0 c.note.new.self false c.args.left c.args.right lt_left lt_right one_sort c.note.ensures refl c.in_default.is differ, c.self.invariant.1, c.self.invariant.2)

pub returns-then-left_class-right_class : goal.returns-then-left_class-right_class
returns-then-left_class-right_class c =
    let old : ClosureParts = record { table = c.self.inside.table; marks = c.self.inside.marks; classes = c.self.inside.classes; clash = c.self.inside.clash } in
    let lt_left : IsNo old c.args.left = subst (λ (o : ClosureParts). IsNo o c.args.left) (sym c.self.view_is) c.requires.left in
    let lt_right : IsNo old c.args.right = subst (λ (o : ClosureParts). IsNo o c.args.right) (sym c.self.view_is) c.requires.right in
    let one_sort : AreOfOneSort old c.args.left c.args.right = subst (λ (o : ClosureParts). AreOfOneSort o c.args.left c.args.right) (sym c.self.view_is) c.requires.one_sort in
    let clash : Option Clash = Some (record { left = c.args.left; right = c.args.right }) in
    let new : ClosureParts = record { table = c.self.inside.table; marks = c.note.new.self; classes = c.self.inside.classes; clash = clash } in
    record {
      spent = search rules;
      added = λ none.
          subst (λ (o : ClosureParts). AddsFact o new false c.args.left c.args.right) c.self.view_is
          (marks-facts old c.known.ensures c.self.invariant.0 c.note.new.self false c.args.left c.args.right lt_left lt_right one_sort c.note.ensures c.self.inside.classes clash);
      ok = search rules;
      clash = search rules;
    }

pub returns : goal.returns
returns c =
    let old : ClosureParts = record { table = c.self.inside.table; marks = c.self.inside.marks; classes = c.self.inside.classes; clash = c.self.inside.clash } in
    let lt_left : IsNo old c.args.left = subst (λ (o : ClosureParts). IsNo o c.args.left) (sym c.self.view_is) c.requires.left in
    let lt_right : IsNo old c.args.right = subst (λ (o : ClosureParts). IsNo o c.args.right) (sym c.self.view_is) c.requires.right in
    let one_sort : AreOfOneSort old c.args.left c.args.right = subst (λ (o : ClosureParts). AreOfOneSort o c.args.left c.args.right) (sym c.self.view_is) c.requires.one_sort in
    let clash : Option Clash = c.self.inside.clash in
    let new : ClosureParts = record { table = c.self.inside.table; marks = c.note.new.self; classes = c.self.inside.classes; clash = clash } in
    record {
      spent = search rules;
      added = λ none.
          subst (λ (o : ClosureParts). AddsFact o new false c.args.left c.args.right) c.self.view_is
          (marks-facts old c.known.ensures c.self.invariant.0 c.note.new.self false c.args.left c.args.right lt_left lt_right one_sort c.note.ensures c.self.inside.classes clash);
      ok = search rules;
      clash = search rules;
    }
