use Rattle.std.proofs.Common.{◌≡◌, ℕ, List, ◌++◌, ◌∙◌, ap}
use Rattle.std.specs.Prelude.{codes}
use Rattle.ras_violation.specs.InvalidLines.{database_kind, database_text}
use Rattle.ras_text.proofs.Behind.{behind, on_ok}
use Rattle.ras_violation.proofs.invalid.put_database.Goals as goal

pub returns : goal.returns
returns c =
    let old = c.args.out.now.items in
    let first = c.put.new.out.items in
    let second = c.put-2.new.out.items in
    let last = c.put-3.new.out.items in
    let kind = database_kind c.args.fault in
    on_ok c.put-3.result (last ≡ second ++ codes "\n") (last ≡ old ++ database_text c.args.fault)
    (λ end. behind old first last (codes " database ") (kind ++ codes "\n") c.in_ok-put.ensures
    (behind first second last kind (codes "\n") (c.in_ok-put-2.ensures ∙ ap (λ (k : List ℕ). first ++ k) c.database_kind.ensures) end)) c.put-3.ensures
