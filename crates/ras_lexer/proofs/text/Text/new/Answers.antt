use Rattle.std.proofs.Common.{arith}
use Rattle.std.proofs.lemmas.Bool.Decides.{nat_tests}
use Rattle.ras_lexer.proofs.Padding.{copied_is}
use Rattle.ras_lexer.proofs.text.Text.new.Goals as goal

pub invariant_of-result : goal.invariant_of-result
invariant_of-result c =
    copied_is _ _ c.copy_from_slice.ensures.after (grind (arith, nat_tests)) c.if-bytes-gt-LONGEST.false
