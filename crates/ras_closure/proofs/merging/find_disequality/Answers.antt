use Rattle.std.proofs.Common.{◌≡◌, ℕ, ◌∙◌, below_more}
use Rattle.ras_closure.specs.Classes.{class}
use Rattle.ras_closure.specs.Merging.{HasNoDisequality}
use Rattle.ras_closure.proofs.merging.find_disequality.Goals as goal
use Rattle.ras_closure.proofs.merging.find_disequality.Goals.{then-of-a+in_default, else-of-a}

pub loop-i-preserved : goal.loop-i-preserved
loop-i-preserved c =
    below_more (λ (i : ℕ). class c.args.classes.now i ≡ c.args.a → HasNoDisequality c.args.marks.now c.args.classes.now i c.args.b c.args.marks.now.width) c.loop-i.i c.loop-i.invariant
    (elim c.if-of-a.branch [ then-of-a+in_default w ↦ λ _. w.in_default.ensures | else-of-a w ↦ λ e. absurd (w.if-of-a.false (c.of.ensures ∙ e)) ])
