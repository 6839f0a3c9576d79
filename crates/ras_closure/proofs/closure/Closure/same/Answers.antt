use Rattle.std.proofs.Common.{sym, ◌∙◌}
use Rattle.std.proofs.lemmas.Bool.{eqb-true, eq-eqb}
use Rattle.ras_closure.proofs.closure.Closure.same.Goals as goal

pub returns : goal.returns
returns c = λ s t at_s at_t.
    let exact = c.class_of-left_class.ensures.exact c.args.right.n s t at_s at_t in (
      λ h. exact.0 (eqb-true c.class_of-left_class.result c.class_of-right_class.result h ∙ c.class_of-right_class.ensures.class),
      λ r. eq-eqb c.class_of-left_class.result c.class_of-right_class.result (exact.1 r ∙ sym c.class_of-right_class.ensures.class),
    )
