use Rattle.std.proofs.Common.{◌≡◌, ◌∙◌, ap, subst}
use Rattle.ras_closure.specs.Closures.{ClosureParts}
use Rattle.ras_closure.specs.Numbered.{TableParts}
use Rattle.ras_cover.specs.Extensions.{AreFilled}
use Rattle.ras_enlarge.specs.Numbers.{size_in}
use Rattle.ras_enlarge.proofs.NextNumbers.{numbers-for}
use Rattle.ras_enlarge.proofs.enlarging.numbers_for.Goals as goal

pub returns-clause-numbers : goal.returns-clause-numbers
returns-clause-numbers c =
    let whole = c.table.ensures ∙ ap (λ (x : ClosureParts). x.table) c.closure.ensures in
    numbers-for c.args.case.now c.known.ensures.table c.known.ensures.closure c.args.db.now c.args.values.now c.in_ok-numbers.numbers.numbers.items c.in_ok-numbers.numbers.sizes.items c.fill.new.sizes.items
    c.in_ok-numbers.ensures c.fill.ensures.grows (subst (λ (b : TableParts). AreFilled b (size_in c.fill.new.sizes.items)) whole c.fill.ensures.filled)
