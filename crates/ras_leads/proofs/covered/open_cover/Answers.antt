use Rattle.std.proofs.Common.{refl, inl, inr}
use Rattle.ras_logic.specs.Clashes.{FactsClash}
use Rattle.ras_closure.specs.Closings.{IsClosureOf}
use Rattle.ras_split.proofs.Parting.{ok-if}
use Rattle.ras_leads.proofs.Counts.{closure-open, clash-tidy}
use Rattle.ras_leads.proofs.covered.open_cover.Goals as goal

pub returns-in-None-clause-cover : goal.returns-in-None-clause-cover
returns-in-None-clause-cover c =
    let clash : FactsClash c.args.shape.now.schema c.args.problem.now.literals = rw c.in-None.is at c.in_ok-of.ensures in
    rw c.new.ensures (clash-tidy c.args.shape.now c.known.ensures.shape c.args.problem.now c.requires clash)

pub returns-in-None-clause-count : goal.returns-in-None-clause-count
returns-in-None-clause-count c =
    let clash : FactsClash c.args.shape.now.schema c.args.problem.now.literals = rw c.in-None.is at c.in_ok-of.ensures in inl (clash, refl)

pub returns-in-Some-clause-count : goal.returns-in-Some-clause-count
returns-in-Some-clause-count c =
    let of : IsClosureOf c.args.shape.now c.args.problem.now c.in-Some.closure = rw c.in-Some.is at c.in_ok-of.ensures in
    let known = c.known-in-Some.ensures in
    ok-if c.cover_from.result c.cover_from.ensures.cover
    (λ cubes cover. inr (closure-open c.args.shape.now c.args.problem.now c.in-Some.closure c.known.ensures.shape c.requires known.table known.closure of, c.cover_from.ensures.count))
