use Rattle.std.proofs.Common.{◌≡◌, ◌++◌}
use Rattle.std.specs.Prelude.{codes}
use Rattle.ras_text.specs.Pieces.{word}
use Rattle.ras_text.proofs.Behind.{behind, on_ok}
use Rattle.ras_check.specs.VerdictLines.{node_text, obligation_text}
use Rattle.ras_check.proofs.lines.put_obligation.Goals as goal

pub returns : goal.returns
returns c =
    let old = c.args.out.now.items in
    let first = c.put.new.out.items in
    let second = c.put_word.new.out.items in
    let last = c.put_node.new.out.items in
    let number = word c.args.number in
    let node = node_text c.args.fault in
    on_ok c.put_node.result (last ≡ second ++ node) (last ≡ old ++ obligation_text c.args.number c.args.fault)
    (λ end. behind old first last (codes "INVALID obligation") (number ++ node) c.in_ok-put.ensures (behind first second last number node c.in_ok-put_word.ensures end)) c.put_node.ensures
