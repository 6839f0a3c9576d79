use Rattle.std.proofs.Common.{◌≡◌, ◌++◌}
use Rattle.std.specs.Prelude.{codes}
use Rattle.ras_text.specs.Pieces.{word}
use Rattle.ras_text.proofs.Behind.{behind, on_ok}
use Rattle.ras_check.specs.VerdictLines.{formula_text}
use Rattle.ras_check.proofs.lines.put_formula.Goals as goal

pub returns : goal.returns
returns c =
    let old = c.args.out.now.items in
    let first = c.put.new.out.items in
    let second = c.put_word.new.out.items in
    let last = c.put-2.new.out.items in
    on_ok c.put-2.result (last ≡ second ++ codes " NOT_FITTING\n") (last ≡ old ++ formula_text c.args.number)
    (λ end. behind old first last (codes "INVALID formula") (word c.args.number ++ codes " NOT_FITTING\n") c.in_ok-put.ensures
    (behind first second last (word c.args.number) (codes " NOT_FITTING\n") c.in_ok-put_word.ensures end)) c.put-2.ensures
