use Rattle.std.proofs.Common.{◌≡◌, ◌∙◌}
use Rattle.ras_print.proofs.Loops.{if_ok}
use Rattle.ras_print.specs.Printed.{printed}
use Rattle.ras_names.specs.Canonical.{canonical_text}
use Rattle.ras_print.proofs.SameFile.{printed_is_canonical}
use Rattle.ras_print.proofs.printing.print.Goals as goal

pub returns-clause-canonical : goal.returns-clause-canonical
returns-clause-canonical c =
    λ file h. if_ok c.write.result (λ b. b.items ≡ printed c.args.system.now c.args.names.now) (λ b. b.items ≡ canonical_text file)
    (λ b text. text ∙ printed_is_canonical file c.args.system.now c.args.names.now h) c.write.ensures
