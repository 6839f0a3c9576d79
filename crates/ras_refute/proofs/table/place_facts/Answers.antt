use Rattle.std.proofs.Common.{◌+◌, ◌∙◌, ap, ◌∷◌, [], ◌++◌, take, sym}
use Rattle.std.proofs.lemmas.List.{take_more}
use Rattle.ras_logic.specs.declared.literal.Literal.{Literal}
use Rattle.ras_refute.proofs.Tables.{adds-facts, fixed-kept}
use Rattle.ras_refute.proofs.table.place_facts.Goals as goal

pub loop-fact-preserved : goal.loop-fact-preserved
loop-fact-preserved c =
    let l : Literal = c.fact-item.result in
    rw c.in_ok-push.ensures.ok
    (adds-facts c.args.entries.now c.loop-fact.entries c.place_fact.new.entries (take c.loop-fact.fact-index c.args.facts.now) (take (c.loop-fact.fact-index + 1) c.args.facts.now)
    c.loop-fact.sides l c.in_ok-place_fact.field-0
    (take_more c.args.facts.now c.loop-fact.fact-index l c.loop-fact-test.true ∙ ap (λ (x : Literal). take c.loop-fact.fact-index c.args.facts.now ++ x ∷ []) (sym c.fact-item.is))
    c.loop-fact.invariant c.in_ok-place_fact.ensures)

pub place_fact-requires-clause-fixed : goal.place_fact-requires-clause-fixed
place_fact-requires-clause-fixed c =
    fixed-kept c.args.schema.now c.args.entries.now c.loop-fact.entries c.requires.fixed c.loop-fact.invariant.adds.grows
