use Rattle.std.proofs.Common.{◌≡◌, ◌++◌}
use Rattle.std.specs.Prelude.{codes}
use Rattle.ras_text.specs.Pieces.{word}
use Rattle.ras_text.proofs.Behind.{behind, on_ok}
use Rattle.ras_spent.specs.InvalidLines.{earlier_text}
use Rattle.ras_spent.proofs.invalid.put_earlier.Goals as goal

pub returns : goal.returns
returns c =
    let old = c.args.out.now.items in
    let first = c.put.new.out.items in
    let second = c.put_word.new.out.items in
    let last = c.put-2.new.out.items in
    let number = word c.args.number in
    on_ok c.put-2.result (last ≡ second ++ codes "\n") (last ≡ old ++ earlier_text c.args.number)
    (λ end. behind old first last (codes " start EARLIER") (number ++ codes "\n") c.in_ok-put.ensures (behind first second last number (codes "\n") c.in_ok-put_word.ensures end))
    c.put-2.ensures
