use Rattle.std.proofs.Common.{◌+◌, ◌-◌, ◌*◌, ◌<◌, ◌≤◌, length, reverse, sym, arith}
use Rattle.std.proofs.lemmas.List.{length-reverse}
use Rattle.std.proofs.lemmas.Result.{IfOk-weaker}
use Rattle.ras_sat.specs.Tasks.{opposites_at}
use Rattle.ras_sat.specs.Efforts.{effort_at, effort_behind, effort_of}
use Rattle.ras_sat.proofs.Depths.{effort-some}
use Rattle.ras_sat.proofs.Places.{fresh-refuted, fresh-other, leaf-refutation, premise-clash, split-falls}
use Rattle.ras_sat.proofs.search.enter.Goals as goal

pub advance-requires-clause-at : goal.advance-requires-clause-at
advance-requires-clause-at c =
    let verdict = rw c.in-Open.is at c.in_ok-judge.ensures in
    record {
      at = c.requires.place.at;
      refuted = fresh-refuted c.args.task.now c.requires.task c.args.search.now.facts.literals c.in-Open.instance c.new.result verdict.1 c.new.ensures;
      other = fresh-other c.args.task.now c.requires.task c.args.search.now.facts.literals (reverse c.args.search.now.open.items) c.in-Open.instance c.requires.place.below verdict.1;
      below = c.requires.place.below;
    }

pub returns-in_ok-tree-in-Clash-clause-right : goal.returns-in_ok-tree-in-Clash-clause-right
returns-in_ok-tree-in-Clash-clause-right c =
    leaf-refutation c.args.task.now c.requires.task c.args.search.now.facts.literals c.in_ok-tree-in-Clash.tree (rw c.in-Clash.is at c.in_ok-judge.ensures) c.in_ok-tree-in-Clash.ensures

pub returns-in_ok-tree-in-Clash-clause-effort : goal.returns-in_ok-tree-in-Clash-clause-effort
returns-in_ok-tree-in-Clash-clause-effort c =
    let some = effort-some 4294967295 (length c.args.task.now.instances.now - length c.args.search.now.open.items) in
    omega (arith, some)

pub returns-in-Escape-clause-lone : goal.returns-in-Escape-clause-lone
returns-in-Escape-clause-lone c = λ clash.
    let verdict = rw c.in-Escape.is at c.in_ok-judge.ensures in
    absurd (verdict.0 (premise-clash c.args.task.now c.requires.task c.args.search.now.facts c.requires.place.at clash))

pub returns-in-Escape-clause-effort : goal.returns-in-Escape-clause-effort
returns-in-Escape-clause-effort c =
    let some = effort-some 4294967295 (length c.args.task.now.instances.now - length c.args.search.now.open.items) in
    omega (arith, some)

pub returns-in-Open-clause-lone : goal.returns-in-Open-clause-lone
returns-in-Open-clause-lone c = λ clash.
    let verdict = rw c.in-Open.is at c.in_ok-judge.ensures in
    absurd (verdict.0 (premise-clash c.args.task.now c.requires.task c.args.search.now.facts c.requires.place.at clash))

pub returns-in-Open-clause-effort : goal.returns-in-Open-clause-effort
returns-in-Open-clause-effort c =
    let verdict = rw c.in-Open.is at c.in_ok-judge.ensures in
    IfOk-weaker c.advance.result
    (λ next. effort_of c.args.task.now c.advance.new.search next
    ≤ (length (opposites_at c.args.task.now c.in-Open.instance) - length c.new.result) * effort_at c.args.task.now (length c.args.search.now.open.items + 1) + 1
    + effort_behind c.args.task.now (reverse c.args.search.now.open.items))
    (λ next. effort_of c.args.task.now c.advance.new.search next
    < effort_at c.args.task.now (length c.args.search.now.open.items) + effort_behind c.args.task.now (reverse c.args.search.now.open.items))
    (λ next le. split-falls c.args.task.now c.requires.task c.args.search.now.facts.literals (reverse c.args.search.now.open.items) (length c.args.search.now.open.items) c.in-Open.instance
    (effort_of c.args.task.now c.advance.new.search next) (effort_behind c.args.task.now (reverse c.args.search.now.open.items)) c.new.result c.requires.place.below verdict.1
    (sym (length-reverse c.args.search.now.open.items)) c.new.ensures le)
    c.advance.ensures.effort
