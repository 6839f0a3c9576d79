use Rattle.std.proofs.Common.{◌≡◌, ◌<◌, refl, sym, ◌∙◌, ap, subst, length, length-set, false, true, List, ℕ, get_or, set, Bool}
use Rattle.std.proofs.lemmas.List.{get_or-replicate}
use Rattle.ras_logic.proofs.Leading.{mark-step, mark-skip}
use Rattle.ras_logic.proofs.cycles.sources_of.Goals as goal
use Rattle.ras_logic.proofs.cycles.sources_of.Goals.{then-marked-target, else-marked-target}

pub loop-f-init : goal.loop-f-init
loop-f-init g c = record { as_long = refl; marks = λ s h. get_or-replicate 64 s false false h }

pub loop-f-preserved : goal.loop-f-preserved
loop-f-preserved g c =
    let v = c.loop-f.invariant in
    let f = c.f-item.result in
    let source = g.A.Arrow.source in
    let known = subst (λ h. (source h < 64) × (g.A.Arrow.target h < 64)) (sym c.f-item.is) (c.requires c.loop-f.f-index f c.loop-f-test.true) in
    elim c.if-marked-target.branch [
      | then-marked-target w ↦
          let grown : c.if-marked-target.sources ≡ set c.loop-f.sources (source f) true = rw (w.sources-is, w.source.ensures) refl in
          let marked = ap (λ (t : ℕ). get_or c.args.marked.now t false) (sym c.target.ensures) ∙ w.if-marked-target.true in
          record {
            as_long = ap length grown ∙ length-set _ _ _ ∙ v.as_long;
            marks = λ s h. ap (λ (xs : List Bool). get_or xs s false) grown
                ∙ mark-step source g.A.Arrow.target c.args.functions.now c.args.marked.now c.loop-f.sources c.loop-f.f-index f c.loop-f-test.true c.f-item.is
                (subst (λ (n : ℕ). source f < n) (sym v.as_long) known.0) marked s (v.marks s h);
          }
      | else-marked-target w ↦
          let unmarked = ap (λ (t : ℕ). get_or c.args.marked.now t false) (sym c.target.ensures) ∙ w.if-marked-target.false in
          record {
            as_long = ap length w.sources-is ∙ v.as_long;
            marks = λ s h. ap (λ (xs : List Bool). get_or xs s false) w.sources-is
                ∙ mark-skip source g.A.Arrow.target c.args.functions.now c.args.marked.now c.loop-f.sources c.loop-f.f-index f c.loop-f-test.true c.f-item.is unmarked s (v.marks s h);
          }
    ]
