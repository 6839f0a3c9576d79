use Rattle.std.proofs.Common.{◌≡◌, subst, sym}
use Rattle.std.specs.Prelude.{None}
use Rattle.ras_closure.specs.Closures.{ClosureParts}
use Rattle.ras_closure.specs.SmallModels.{IsModelOf, IsSmallFor}
use Rattle.ras_closure.proofs.SmallModels.{sorted-classes, small-model, small-for}
use Rattle.ras_closure.proofs.closure.Closure.model.Goals as goal

pub model_of-requires : goal.model_of-requires
model_of-requires c =
    let old : ClosureParts = record { table = c.self.inside.table; marks = c.self.inside.marks; classes = c.self.inside.classes; clash = c.self.inside.clash } in
    sorted-classes old c.known.ensures c.self.invariant.0 (subst (λ (o : ClosureParts). o.clash ≡ None) (sym c.self.view_is) c.requires)

pub returns : goal.returns
returns c =
    let old : ClosureParts = record { table = c.self.inside.table; marks = c.self.inside.marks; classes = c.self.inside.classes; clash = c.self.inside.clash } in
    let none : old.clash ≡ None = subst (λ (o : ClosureParts). o.clash ≡ None) (sym c.self.view_is) c.requires in
    let d = c.in_ok-model.model.db in
    let v = c.in_ok-model.model.values in
    record {
      model = subst (λ (o : ClosureParts). IsModelOf o d v) c.self.view_is (small-model old c.known.ensures c.self.invariant.0 none d v c.in_ok-model.ensures);
      small = subst (λ (o : ClosureParts). IsSmallFor o d v) c.self.view_is (small-for old c.known.ensures c.self.invariant.0 none d v c.in_ok-model.ensures);
    }
