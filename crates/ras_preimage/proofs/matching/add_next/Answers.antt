use Rattle.std.proofs.Common.{◌++◌, ◌∷◌, [], ℕ, true, false, not, ◌&&◌, nat_eq, get_or, List, sym, ◌∙◌, ap}
use Rattle.std.specs.List.{list_any}
use Rattle.ras_preimage.specs.declared.matching.Matching.{Matching}
use Rattle.ras_preimage.proofs.Matchings.{parameter-more}
use Rattle.ras_preimage.proofs.matching.add_next.Goals as goal
use Rattle.ras_preimage.proofs.matching.add_next.Goals.{then-is_free+in_ok-with_parameter+in_ok-push, else-is_free}

pub loop-k-preserved : goal.loop-k-preserved
loop-k-preserved c =
    let test = ap (λ (l : List ℕ). nat_eq (get_or c.args.params.now c.loop-k.k (record { n = 0 })).n c.args.relation.n && not (list_any (nat_eq c.loop-k.k) l)) (sym c.as_slice.ensures.items)
    ∙ sym c.is_free.ensures in
    elim c.if-is_free.branch [
      | then-is_free+in_ok-with_parameter+in_ok-push w ↦
          parameter-more c.args.params.now c.args.relation c.args.matching c.loop-k.k (record { n = 0 }) true c.args.all.now c.loop-k.all c.if-is_free.all
          c.loop-k-test.true (test ∙ w.if-is_free.true)
          (w.all-is ∙ w.in_ok-push.ensures.ok ∙ ap (λ (m : Matching). c.loop-k.all ++ m ∷ []) w.in_ok-with_parameter.ensures) c.loop-k.invariant
      | else-is_free w ↦
          parameter-more c.args.params.now c.args.relation c.args.matching c.loop-k.k (record { n = 0 }) false c.args.all.now c.loop-k.all c.if-is_free.all
          c.loop-k-test.true (test ∙ w.if-is_free.false) w.all-is c.loop-k.invariant
    ]
