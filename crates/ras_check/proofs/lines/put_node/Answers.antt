use Rattle.std.proofs.Common.{◌≡◌, ℕ, List, ◌++◌, ◌∙◌, ap}
use Rattle.std.specs.Prelude.{codes}
use Rattle.ras_text.specs.Pieces.{word}
use Rattle.ras_text.proofs.Behind.{behind, on_ok}
use Rattle.ras_check.specs.VerdictLines.{tree_kind, node_text}
use Rattle.ras_check.proofs.lines.put_node.Goals as goal

pub returns : goal.returns
returns c =
    let old = c.args.out.now.items in
    let first = c.put.new.out.items in
    let second = c.put_word.new.out.items in
    let third = c.put-2.new.out.items in
    let fourth = c.put-3.new.out.items in
    let last = c.put-4.new.out.items in
    let number = word c.args.fault.node in
    let kind = tree_kind c.args.fault.kind in
    on_ok c.put-4.result (last ≡ fourth ++ codes "\n") (last ≡ old ++ node_text c.args.fault)
    (λ end. behind old first last (codes " node") (number ++ (codes " " ++ (kind ++ codes "\n"))) c.in_ok-put.ensures
    (behind first second last number (codes " " ++ (kind ++ codes "\n")) c.in_ok-put_word.ensures
    (behind second third last (codes " ") (kind ++ codes "\n") c.in_ok-put-2.ensures
    (behind third fourth last kind (codes "\n") (c.in_ok-put-3.ensures ∙ ap (λ (k : List ℕ). third ++ k) c.tree_kind.ensures) end)))) c.put-4.ensures
