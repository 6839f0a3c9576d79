use Rattle.std.proofs.Common.{◌≡◌, true, refl, sym, subst}
use Rattle.std.specs.Prelude.{◌↔◌, None, IsTrue}
use Rattle.std.proofs.lemmas.Bool.{OnTrue_at}
use Rattle.ras_closure.specs.Closures.{ClosureParts, AddsFact, HasNoModel}
use Rattle.ras_subsumption.proofs.ExactTruth.{no_model-differ, differ-no_model, apart-differ}
use Rattle.ras_subsumption.proofs.holding.differ_wherever.Goals as goal

pub returns-then-are_apart : goal.returns-then-are_apart
returns-then-are_apart c s t at_s at_t =
    let k = c.args.known.now in (
      λ _. apart-differ k.shape.now k.premise.now k.closure.now c.requires.known.closure c.known.ensures.table c.known.ensures.closure c.args.left c.args.right c.requires.one_sort
          (record { left = c.class_of-left_class.result; right = c.class_of-right_class.result }) (sym c.class_of-left_class.ensures.class) (sym c.class_of-right_class.ensures.class)
          (OnTrue_at c.if-are_apart.true c.are_apart.ensures) s t at_s at_t,
      λ _. refl,
    )

pub returns : goal.returns
returns c s t at_s at_t =
    let k = c.args.known.now in
    let new : ClosureParts = c.add_same.new.self in
    let none : c.in_ok-supposed.supposed.clash ≡ None = rw c.in_ok-supposed.ensures c.requires.known.closure.no_clash in
    let adds : AddsFact k.closure.now new true c.args.left c.args.right =
    subst (λ (o : ClosureParts). AddsFact o new true c.args.left c.args.right) c.in_ok-supposed.ensures (c.add_same.ensures.asserted.added none) in
    let exact : IsTrue c.is_err.result ↔ HasNoModel new = rw c.is_err.ensures.value c.add_same.ensures.no_model in (
      λ h. no_model-differ k.shape.now k.premise.now k.closure.now c.requires.known.closure c.known.ensures.table c.known.ensures.closure new c.args.left c.args.right adds s t at_s at_t (exact.0 h),
      λ h. exact.1 (differ-no_model k.shape.now k.premise.now k.closure.now c.requires.known.closure c.known.ensures.table c.known.ensures.closure new c.args.left c.args.right adds s t at_s at_t h),
    )
