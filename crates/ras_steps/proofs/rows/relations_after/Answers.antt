use Rattle.std.proofs.Common.{ℕ, List, [], ◌∷◌, ◌++◌, take, sym, ◌∙◌, ap}
use Rattle.ras_steps.specs.Sights.{seen}
use Rattle.ras_steps.proofs.RowChanges.{new_rows, new_relations, relations_more}
use Rattle.ras_steps.proofs.rows.relations_after.Goals as goal

pub loop-relation-preserved : goal.loop-relation-preserved
loop-relation-preserved c =
    let d = c.args.db.now in
    let v = seen c.args.sight.now in
    let t = c.args.transition.now in
    let chosen = c.args.sight.now.chosen.now in
    let relations = c.args.relations.now in
    let i = c.loop-relation.relation in
    c.in_ok-push.ensures.ok ∙ ap (λ (xs : List (List (List ℕ))). xs ++ c.in_ok-rows.rows ∷ []) c.loop-relation.invariant
    ∙ ap (λ (x : List (List ℕ)). new_relations d v t chosen (take i relations) ++ x ∷ []) c.in_ok-rows.ensures
    ∙ ap (λ (x : List (List ℕ)). new_relations d v t chosen (take i relations) ++ new_rows d v t chosen i x ∷ []) c.as_slice-old.ensures.items
    ∙ sym (relations_more d v t chosen relations i c.index-relations-relation.result c.loop-relation-test.true c.index-relations-relation.is)
