use Rattle.std.proofs.Common.{◌≡◌, length, sym, ◌∙◌, ap, arith}
use Rattle.std.specs.Prelude.{Some}
use Rattle.std.proofs.lemmas.Option.{slice_get-get_or}
use Rattle.std.proofs.lemmas.Iterator.Adapters.{YieldsList-from_vec}
use Rattle.std.proofs.lemmas.Iterator.Consumers.{YieldsList-turn}
use Rattle.ras_split.proofs.Parting.{splits-start, splits-on}
use Rattle.ras_split.proofs.splitting.split_all.Goals as goal

pub loop-case-init : goal.loop-case-init
loop-case-init c = rw c.new-next.ensures (splits-start c.args.term.n)

pub split-requires : goal.split-requires
split-requires c =
    let gives = c.into_iter-case-iterator.ensures.into_iter_gives in
    let items = c.into_vec-case-items.ensures.items in
    let t = YieldsList-turn (YieldsList-from_vec c.args.cases (gives.0 ∙ items) (omega (arith, gives.1, c.into_vec-case-items.result.ok.0, ap length items))) c.loop-case.yielded c.loop-case.case-iterator c.loop-case.yielded_by
    c.next.result c.next.new.self c.in-Some.case c.in-Some.is c.next.ensures.steps in
    c.requires c.in-Some.case (record { number = length c.loop-case.yielded; known = slice_get-get_or c.args.cases (length c.loop-case.yielded) c.in-Some.case t.0 ∙ ap Some (sym t.1) })

pub loop-case-preserved : goal.loop-case-preserved
loop-case-preserved c = splits-on c.loop-case.yielded c.in-Some.case c.args.term.n c.loop-case.next c.split.new.cases c.loop-case.invariant c.in_ok-split.ensures
