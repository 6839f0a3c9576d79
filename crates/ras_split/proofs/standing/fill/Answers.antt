use Rattle.std.proofs.Common.{◌≡◌, ◌<◌, sym, ◌∙◌, ap, subst, arith, length}
use Rattle.std.specs.Prelude.{slice_get, Some}
use Rattle.std.proofs.lemmas.Option.{slice_get-get_or}
use Rattle.std.proofs.lemmas.Iterator.Adapters.{YieldsList-from_vec}
use Rattle.std.proofs.lemmas.Iterator.Consumers.{YieldsList-turn}
use Rattle.ras_split.proofs.Filling.{fills-start, fills-on}
use Rattle.ras_split.proofs.standing.fill.Goals as goal

pub loop-gap-init : goal.loop-gap-init
loop-gap-init c = fills-start c.args.terms.now.items

pub fill_gap-requires : goal.fill_gap-requires
fill_gap-requires c =
    let gives = c.into_iter-gap-iterator.ensures.into_iter_gives in
    let t = YieldsList-turn (YieldsList-from_vec c.args.gaps.items gives.0 (omega (arith, gives.1, c.args.gaps.ok.0))) c.loop-gap.yielded c.loop-gap.gap-iterator c.loop-gap.yielded_by c.next.result c.next.new.self c.in-Some.gap c.in-Some.is c.next.ensures.steps in
    let lt = c.requires c.in-Some.gap (record { number = length c.loop-gap.yielded; known = slice_get-get_or c.args.gaps.items (length c.loop-gap.yielded) c.in-Some.gap t.0 ∙ ap Some (sym t.1) }) in
    omega (arith, lt, c.loop-gap.invariant.long)

pub loop-gap-preserved : goal.loop-gap-preserved
loop-gap-preserved c = fills-on c.args.terms.now.items c.loop-gap.terms.items c.fill_gap.new.terms.items c.loop-gap.yielded c.in-Some.gap c.loop-gap.invariant c.fill_gap.ensures
