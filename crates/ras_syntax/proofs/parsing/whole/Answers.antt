use Rattle.std.proofs.Common.{[], ◌∙◌, arith}
use Rattle.std.proofs.lemmas.Bool.Decides.{nat_tests}
use Rattle.ras_syntax.proofs.First.{trailing}
use Rattle.ras_syntax.proofs.parsing.whole.Goals as goal

pub returns-then-not-is_empty : goal.returns-then-not-is_empty
returns-then-not-is_empty c = c.in_ok-file.ensures.reads [] ∙ trailing c.file.new.self.rest.now (grind (arith, nat_tests))
