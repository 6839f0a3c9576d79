use Rattle.std.proofs.Common.{◌≡◌, List, ap, ◌∙◌}
use Rattle.std.specs.List.{find}
use Rattle.std.specs.Str.{bytes_eq}
use Rattle.ras_lexer.specs.declared.fixed.Fixed.{Fixed}
use Rattle.ras_lexer.specs.Words.{fixed_bytes}
use Rattle.ras_lexer.proofs.Tables.{of_is}
use Rattle.ras_lexer.proofs.fixed.Fixed.of.Goals as goal

pub returns : goal.returns
returns c =
    of_is c.args.bytes.now c.first_written.result (c.first_written.ensures ∙ ap (λ (fs : List Fixed). find (λ f. bytes_eq (fixed_bytes f) c.args.bytes.now) fs) c.of_length.ensures)
