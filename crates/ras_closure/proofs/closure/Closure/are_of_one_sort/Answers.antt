use Rattle.std.proofs.Common.{◌≡◌, sym, ◌∙◌, subst, ap}
use Rattle.std.specs.Prelude.{Some, IsTrue}
use Rattle.std.proofs.lemmas.Bool.{eqb-true, eq-eqb}
use Rattle.ras_logic.specs.declared.ids.SortId.{SortId}
use Rattle.ras_closure.specs.Closures.{ClosureParts, IsNo, AreOfOneSort}
use Rattle.ras_closure.proofs.Merges.{term_at}
use Rattle.ras_closure.proofs.Cases.{some_same}
use Rattle.ras_closure.proofs.closure.Closure.are_of_one_sort.Goals as goal

pub returns : goal.returns
returns c =
    let old : ClosureParts = record { table = c.self.inside.table; marks = c.self.inside.marks; classes = c.self.inside.classes; clash = c.self.inside.clash } in
    let left : SortId = c.sort-left_sort.result in
    let right : SortId = c.sort-right_sort.result in
    subst (λ (o : ClosureParts). (IsTrue c.eq.result → AreOfOneSort o c.args.left c.args.right) × (AreOfOneSort o c.args.left c.args.right → IsTrue c.eq.result)) c.self.view_is (
      λ h. record {
        both = λ s t at_s at_t.
            let same : left ≡ right = ap (λ n. record { n = n }) (eqb-true left.n right.n (sym c.eq.ensures ∙ h)) in
            (right, c.sort-left_sort.ensures.is_sort s at_s ∙ ap (λ (q : SortId). Some q) same, c.sort-right_sort.ensures.is_sort t at_t);
      },
      λ h.
          let lt_left : IsNo old c.args.left = subst (λ (o : ClosureParts). IsNo o c.args.left) (sym c.self.view_is) c.requires.left in
          let lt_right : IsNo old c.args.right = subst (λ (o : ClosureParts). IsNo o c.args.right) (sym c.self.view_is) c.requires.right in
          let s = term_at old.table.terms c.args.left.n lt_left in
          let t = term_at old.table.terms c.args.right.n lt_right in
          let both = h.both s.0 t.0 s.1 t.1 in
          let one : left ≡ both.0 = some_same (sym (c.sort-left_sort.ensures.is_sort s.0 s.1) ∙ both.1) in
          let two : right ≡ both.0 = some_same (sym (c.sort-right_sort.ensures.is_sort t.0 t.1) ∙ both.2) in
          c.eq.ensures ∙ eq-eqb left.n right.n (ap (λ (q : SortId). q.n) (one ∙ sym two)),
    )
