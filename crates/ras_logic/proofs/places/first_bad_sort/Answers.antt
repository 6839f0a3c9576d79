use Rattle.ras_logic.specs.Schemas.{IsSort}
use Rattle.ras_logic.proofs.AllSteps.{all_done}
use Rattle.std.proofs.lemmas.List.Elements.{All-more}
use Rattle.ras_logic.proofs.places.first_bad_sort.Goals as goal

pub loop-place-preserved : goal.loop-place-preserved
loop-place-preserved c =
    All-more (IsSort c.args.sorts) c.args.named.now c.loop-place.place _ c.loop-place-test.true c.loop-place.invariant c.if-s-sorts.false

pub returns-clause-none : goal.returns-clause-none
returns-clause-none c = all_done (IsSort c.args.sorts) c.args.named.now c.loop-place.place c.loop-place-test.false c.loop-place.invariant
