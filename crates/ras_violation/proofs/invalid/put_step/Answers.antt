use Rattle.std.proofs.Common.{◌≡◌, ◌++◌}
use Rattle.std.specs.Prelude.{codes}
use Rattle.ras_text.specs.Pieces.{word}
use Rattle.ras_violation.specs.InvalidLines.{step_kind, step_text}
use Rattle.ras_text.proofs.Behind.{behind, on_ok}
use Rattle.ras_violation.proofs.invalid.put_step.Goals as goal

pub returns : goal.returns
returns c =
    let old = c.args.out.now.items in
    let first = c.put.new.out.items in
    let second = c.put_word.new.out.items in
    let third = c.put-2.new.out.items in
    let fourth = c.put_step_kind.new.out.items in
    let last = c.put-3.new.out.items in
    let number = word c.args.fault.at in
    let kind = step_kind c.args.fault.fault in
    on_ok c.put-3.result (last ≡ fourth ++ codes "\n") (last ≡ old ++ step_text c.args.fault)
    (λ end. behind old first last (codes " step") (number ++ (codes " " ++ (kind ++ codes "\n"))) c.in_ok-put.ensures
    (behind first second last number (codes " " ++ (kind ++ codes "\n")) c.in_ok-put_word.ensures
    (behind second third last (codes " ") (kind ++ codes "\n") c.in_ok-put-2.ensures
    (behind third fourth last kind (codes "\n") c.in_ok-put_step_kind.ensures end)))) c.put-3.ensures
