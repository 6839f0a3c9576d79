use Rattle.std.proofs.Common.{ℕ, ◌<◌, length, get_or, nat_eq, cond, arith}
use Rattle.std.proofs.lemmas.List.{get_or_default}
use Rattle.std.proofs.lemmas.List.Edits.{map_over_more}
use Rattle.ras_refute.proofs.classes.relabel.Goals as goal

pub loop-class-preserved : goal.loop-class-preserved
loop-class-preserved c =
    let lt : c.loop-class.class-index < length c.args.classes.now = omega arith in
    let x : ℕ = get_or c.loop-class.classes c.loop-class.class-index 0 in
    rw (c.renamed.ensures)
    (map_over_more (λ (y : ℕ). cond (nat_eq y c.args.from) c.args.to y) c.args.classes.now c.loop-class.classes c.loop-class.class-index x lt c.loop-class.invariant
    (get_or_default c.loop-class.classes c.loop-class.class-index 0 x (omega arith)))
