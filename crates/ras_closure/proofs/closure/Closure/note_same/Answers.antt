use Rattle.std.proofs.Common.{◌∙◌, sym, subst, refl, true, rules}
use Rattle.ras_closure.specs.Closures.{ClosureParts, IsNo, AreOfOneSort, AddsFact}
use Rattle.ras_closure.proofs.Closures.{marks-partial, marks-together, marks-unbroken, marks-facts, closure-same}
use Rattle.ras_closure.proofs.closure.Closure.note_same.Goals as goal

pub unite-clash-requires : goal.unite-clash-requires
unite-clash-requires c =
    let old : ClosureParts = record { table = c.self.inside.table; marks = c.self.inside.marks; classes = c.self.inside.classes; clash = c.self.inside.clash } in
    let lt_left : IsNo old c.args.left = subst (λ (o : ClosureParts). IsNo o c.args.left) (sym c.self.view_is) c.requires.left in
    let lt_right : IsNo old c.args.right = subst (λ (o : ClosureParts). IsNo o c.args.right) (sym c.self.view_is) c.requires.right in
    let one_sort : AreOfOneSort old c.args.left c.args.right = subst (λ (o : ClosureParts). AreOfOneSort o c.args.left c.args.right) (sym c.self.view_is) c.requires.one_sort in
    record {
      signatures = record { width = c.self.invariant.1; functions = c.self.invariant.2 };
      classes = record {
        width = c.note.ensures.width ∙ c.self.invariant.0.width;
        partial = marks-partial old c.known.ensures c.self.invariant.0 c.note.new.self true c.args.left c.args.right lt_left lt_right one_sort c.note.ensures;
      };
      pair = record {
        left = lt_left;
        right = lt_right;
        together = marks-together old c.known.ensures c.self.invariant.0 c.note.new.self true c.args.left c.args.right lt_left lt_right one_sort c.note.ensures refl;
      };
      unbroken = marks-unbroken old c.known.ensures c.self.invariant.0 c.note.new.self true c.args.left c.args.right lt_left lt_right one_sort c.note.ensures refl
          (c.self.invariant.0.verdict.unbroken c.in_default.is);
    }

pub invariant_of-self : goal.invariant_of-self
invariant_of-self c =
    let old : ClosureParts = record { table = c.self.inside.table; marks = c.self.inside.marks; classes = c.self.inside.classes; clash = c.self.inside.clash } in
    let lt_left : IsNo old c.args.left = subst (λ (o : ClosureParts). IsNo o c.args.left) (sym c.self.view_is) c.requires.left in
    let lt_right : IsNo old c.args.right = subst (λ (o : ClosureParts). IsNo o c.args.right) (sym c.self.view_is) c.requires.right in
    let one_sort : AreOfOneSort old c.args.left c.args.right = subst (λ (o : ClosureParts). AreOfOneSort o c.args.left c.args.right) (sym c.self.view_is) c.requires.one_sort in
    let unite = c.unite-clash.ensures in (
      closure-same old c.known.ensures c.self.invariant.0 c.note.new.self true c.args.left c.args.right lt_left lt_right one_sort c.note.ensures c.unite-clash.new.classes c.unite-clash.result refl
          unite.rest unite.merged unite.verdict,
      unite.signatures.width,
      unite.signatures.functions,
    )

pub returns : goal.returns
returns c =
    let old : ClosureParts = record { table = c.self.inside.table; marks = c.self.inside.marks; classes = c.self.inside.classes; clash = c.self.inside.clash } in
    let lt_left : IsNo old c.args.left = subst (λ (o : ClosureParts). IsNo o c.args.left) (sym c.self.view_is) c.requires.left in
    let lt_right : IsNo old c.args.right = subst (λ (o : ClosureParts). IsNo o c.args.right) (sym c.self.view_is) c.requires.right in
    let one_sort : AreOfOneSort old c.args.left c.args.right = subst (λ (o : ClosureParts). AreOfOneSort o c.args.left c.args.right) (sym c.self.view_is) c.requires.one_sort in
    let new : ClosureParts = record { table = c.self.inside.table; marks = c.note.new.self; classes = c.unite-clash.new.classes; clash = c.unite-clash.result } in
    record {
      spent = search rules;
      added = λ none.
          subst (λ (o : ClosureParts). AddsFact o new true c.args.left c.args.right) c.self.view_is
          (marks-facts old c.known.ensures c.self.invariant.0 c.note.new.self true c.args.left c.args.right lt_left lt_right one_sort c.note.ensures c.unite-clash.new.classes c.unite-clash.result);
      ok = search rules;
      clash = search rules;
    }
