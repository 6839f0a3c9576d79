use Rattle.std.proofs.Common.{◌≡◌, ℕ, ◌+◌, ◌-◌, ◌*◌, ◌<◌, ◌≤◌, [], ◌∷◌, List, length, reverse, ◌∙◌, ap, subst}
use Rattle.std.proofs.lemmas.List.{length-reverse, length-append}
use Rattle.std.proofs.lemmas.Result.{IfOk-weaker}
use Rattle.ras_sat.specs.declared.open_split.OpenSplit.{OpenSplit}
use Rattle.ras_sat.specs.Tasks.{opposites_at}
use Rattle.ras_sat.specs.Efforts.{effort_at, effort_behind, effort_of}
use Rattle.ras_sat.proofs.Places.{case-dropped, open-dropped, refuted-more, child-falls}
use Rattle.ras_sat.proofs.search.leave.Goals as goal

pub advance-requires-clause-at : goal.advance-requires-clause-at
advance-requires-clause-at c =
    let above : List OpenSplit = reverse c.args.search.now.open.items in
    record {
      at = case-dropped c.args.task.now c.requires.task c.args.search.now.facts c.drop_fact.new.facts c.args.split above c.requires.at c.requires.below c.drop_fact.ensures;
      refuted = refuted-more c.args.task.now c.requires.task c.args.search.now.facts c.drop_fact.new.facts c.args.split above c.args.tree c.push.new.self c.requires.below c.drop_fact.ensures c.requires.tree
          c.in_ok-push.ensures.ok;
      other = c.requires.below.1.other;
      below = open-dropped c.args.task.now c.requires.task c.args.search.now.facts c.drop_fact.new.facts c.args.split above c.requires.below c.drop_fact.ensures;
    }

pub returns-clause-effort : goal.returns-clause-effort
returns-clause-effort c =
    let longer : length c.push.new.self ≡ length c.args.split.done + 1 = ap length c.in_ok-push.ensures.ok ∙ length-append c.args.split.done (c.args.tree ∷ []) in
    let each : ℕ = effort_at c.args.task.now (length (reverse c.args.search.now.open.items) + 1) in
    IfOk-weaker c.advance.result
    (λ next. effort_of c.args.task.now c.advance.new.search next
    ≤ (length (opposites_at c.args.task.now c.args.split.instance) - length c.push.new.self) * effort_at c.args.task.now (length c.args.search.now.open.items + 1) + 1
    + effort_behind c.args.task.now (reverse c.args.search.now.open.items))
    (λ next. effort_of c.args.task.now c.advance.new.search next
    < 1 + ((length (opposites_at c.args.task.now c.args.split.instance) - length c.args.split.done - 1) * each + 1 + effort_behind c.args.task.now (reverse c.args.search.now.open.items)))
    (λ next le. child-falls (length (opposites_at c.args.task.now c.args.split.instance)) (length c.args.split.done) (effort_of c.args.task.now c.advance.new.search next)
    (effort_behind c.args.task.now (reverse c.args.search.now.open.items)) each
    (rw (length-reverse c.args.search.now.open.items)
    (subst (λ (n : ℕ). effort_of c.args.task.now c.advance.new.search next
    ≤ (length (opposites_at c.args.task.now c.args.split.instance) - n) * effort_at c.args.task.now (length c.args.search.now.open.items + 1) + 1
    + effort_behind c.args.task.now (reverse c.args.search.now.open.items)) longer le)))
    c.advance.ensures.effort
