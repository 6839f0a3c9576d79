use Rattle.std.proofs.Common.{◌≡◌, List, ℕ, subst}
use Rattle.ras_enlarge.specs.Numbers.{IsEmptyTarget}
use Rattle.ras_enlarge.proofs.Zeros.{fewer-zeros}
use Rattle.ras_enlarge.proofs.filling.fill.Goals as goal

pub loop-sort-smaller : goal.loop-sort-smaller
loop-sort-smaller c =
    let empty = subst (λ (xs : List ℕ). IsEmptyTarget xs c.in-Some.sort) c.deref.ensures.value c.in-Some.ensures in fewer-zeros c.loop-sort.sizes.items c.in-Some.sort empty
