use Rattle.std.proofs.Common.{◌≡◌, [], ◌∷◌, ◌++◌, length, get_or, refl, sym, ◌∙◌}
use Rattle.std.specs.Prelude.{slice_get, Some}
use Rattle.std.proofs.lemmas.Option.{slice_get_read, get_or_from_slice_get, slice_get-get_or}
use Rattle.ras_sat.specs.Tasks.{opposites_at}
use Rattle.ras_sat.proofs.Places.{case-added, open-pushed}
use Rattle.ras_sat.proofs.search.advance.Goals as goal

pub returns-in_ok-push-in-Some-clause-place : goal.returns-in_ok-push-in-Some-clause-place
returns-in_ok-push-in-Some-clause-place c =
    let look = c.in-Some.ensures.lookup in
    let lt = c.requires.at.refuted.within in
    let list : c.as_slice-opposites.result.now ≡ opposites_at c.args.task.now c.args.split.instance =
    c.as_slice-opposites.ensures.items
    ∙ sym (get_or_from_slice_get c.args.task.now.opposites.now c.args.split.instance (get_or c.args.task.now.opposites.now c.args.split.instance c.index-task-split.result) []
    (slice_get-get_or c.args.task.now.opposites.now c.args.split.instance c.index-task-split.result (rw c.requires.task.as_many lt))) in
    let at : slice_get c.as_slice-opposites.result.now c.len.result ≡ Some c.in-Some.fact.now =
    slice_get_read c.as_slice-opposites.result.now (length c.as_slice-opposites.result.now) c.len.result c.in-Some.fact.now refl look.3.0 look.1 in
    let known : slice_get (opposites_at c.args.task.now c.args.split.instance) (length c.args.split.done) ≡ Some c.in-Some.fact.now = rw (← list, ← c.len.ensures.count) at in
    let pushed : c.push.new.self.items ≡ c.args.search.now.open.items ++ c.args.split ∷ [] = c.in_ok-push-in-Some.ensures.items in
    record {
      at = case-added c.args.task.now c.requires.task c.args.search.now.facts c.add_fact.new.facts c.args.split c.in-Some.fact.now c.requires.at.at c.requires.at.refuted known c.in_ok-add_fact-in-Some.ensures;
      below = open-pushed c.args.task.now c.requires.task c.args.search.now.facts c.add_fact.new.facts c.args.search.now.open.items c.push.new.self.items c.args.split c.in-Some.fact.now c.requires.at.refuted
          c.requires.at.other c.requires.at.below known c.in_ok-add_fact-in-Some.ensures pushed;
    }
