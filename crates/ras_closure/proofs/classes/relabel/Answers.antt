use Rattle.std.proofs.Common.{ℕ, ◌<◌, length, get_or, nat_eq, cond, arith}
use Rattle.std.proofs.lemmas.List.{get_or_default}
use Rattle.std.proofs.lemmas.List.Edits.{map_over_more}
use Rattle.ras_closure.proofs.classes.relabel.Goals as goal

pub loop-c-preserved : goal.loop-c-preserved
loop-c-preserved c =
    let lt : c.loop-c.c-index < length c.args.classes.now = omega arith in
    let x : ℕ = get_or c.loop-c.classes c.loop-c.c-index 0 in
    rw (c.renamed.ensures)
    (map_over_more (λ (y : ℕ). cond (nat_eq y c.args.from) c.args.to y) c.args.classes.now c.loop-c.classes c.loop-c.c-index x lt c.loop-c.invariant
    (get_or_default c.loop-c.classes c.loop-c.c-index 0 x (omega arith)))
