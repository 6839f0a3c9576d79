use Rattle.std.proofs.Common.{◌≡◌, ◌++◌}
use Rattle.std.specs.Prelude.{codes}
use Rattle.ras_text.specs.Pieces.{word}
use Rattle.ras_text.proofs.Behind.{behind, on_ok}
use Rattle.ras_spent.specs.InvalidLines.{entry_text, invalid_text}
use Rattle.ras_spent.proofs.invalid.put_fault.Goals as goal

pub returns : goal.returns
returns c =
    let old = c.args.out.now.items in
    let first = c.put.new.out.items in
    let second = c.put_word.new.out.items in
    let last = c.put_entry_fault.new.out.items in
    let number = word c.args.fault.entry in
    let told = entry_text c.args.fault.fault in
    on_ok c.put_entry_fault.result (last ≡ second ++ told) (last ≡ old ++ invalid_text c.args.fault)
    (λ end. behind old first last (codes "INVALID entry") (number ++ told) c.in_ok-put.ensures (behind first second last number told c.in_ok-put_word.ensures end))
    c.put_entry_fault.ensures
