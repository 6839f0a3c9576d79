use Rattle.std.specs.Prelude.{None}
use Rattle.ras_closure.proofs.Verdicts.{verdict-of}
use Rattle.ras_closure.proofs.saturation.join.Goals as goal

pub returns-then-of-clause-verdict : goal.returns-then-of-clause-verdict
returns-then-of-clause-verdict c = verdict-of c.args.table.now c.args.marks.now c.args.classes.now c.args.classes.now None c.requires.unbroken (λ u. u)

pub returns-clause-verdict : goal.returns-clause-verdict
returns-clause-verdict c = verdict-of c.args.table.now c.args.marks.now c.args.classes.now c.merge.new.classes c.merge.result c.requires.unbroken c.merge.ensures.clash
