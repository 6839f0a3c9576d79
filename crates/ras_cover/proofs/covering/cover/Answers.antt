use Rattle.std.proofs.Common.{◌≡◌, sym}
use Rattle.ras_logic.specs.Clashes.{FactsClash}
use Rattle.ras_cover.proofs.CoverLaws.{clash-cover}
use Rattle.ras_cover.proofs.covering.cover.Goals as goal

pub returns-in-None-clause-cover : goal.returns-in-None-clause-cover
returns-in-None-clause-cover c =
    let clash : FactsClash c.args.shape.now.schema c.args.problem.now.literals = rw c.in-None.is at c.in_ok-of.ensures in
    rw c.new.ensures (clash-cover c.args.shape.now c.known.ensures.shape c.args.problem.now c.requires clash)
