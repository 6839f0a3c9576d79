use Rattle.std.proofs.Common.{◌<◌, ℕ, ◌∷◌, [], length, get_or, arith, subst, length-append}
use Rattle.std.proofs.lemmas.Option.{slice_get-get_or}
use Rattle.ras_logic.specs.declared.ids.RelId.{RelId}
use Rattle.ras_logic.specs.declared.term.Base.TheVariants.{Cell}
use Rattle.ras_closure.specs.Values.{AreElementsOf}
use Rattle.ras_closure.specs.Elements.{number}
use Rattle.ras_closure.proofs.FoundImages.{rows-more}
use Rattle.ras_closure.proofs.values.rows.Goals as goal

pub loop-k-preserved : goal.loop-k-preserved
loop-k-preserved c =
    let lt : c.loop-k.k < length c.rows-relations.result.now = omega arith in
    let r : RelId = get_or c.rows-relations.result.now c.loop-k.k (record { n = 0 }) in
    let known = slice_get-get_or c.rows-relations.result.now c.loop-k.k (record { n = 0 }) lt in
    record {
      long = rw c.in_ok-push.ensures.ok (omega (arith, length-append c.loop-k.all (c.in_ok-cells.cells ∷ []), c.loop-k.invariant.long));
      rows = rw c.in_ok-push.ensures.ok
          (rows-more c.args.table.now.shape c.args.table.now.problem.rows c.args.table.now.terms (number c.args.numbers.now) c.loop-k.all c.in_ok-cells.cells c.loop-k.k r c.loop-k.invariant.long
          c.loop-k.invariant.rows (rw (← c.rows-relations.ensures) known)
          (subst (λ (n : ℕ). AreElementsOf c.args.table.now.terms (number c.args.numbers.now) (Cell c.loop-k.k) n c.in_ok-cells.cells) c.width_of-columns.ensures.width c.in_ok-cells.ensures));
    }
