use Rattle.std.proofs.Common.{◌≤◌}
use Rattle.ras_leads.specs.Covered.{CountsOpen}
use Rattle.ras_leads.specs.Gathered.{AreGathered}
use Rattle.ras_leads.proofs.covered.covers_of.Given as goal

abbrev pub invariant-loop-problem : goal.invariant-loop-problem
invariant-loop-problem l =
    AreGathered l.shape l.yielded l.cubes × CountsOpen l.shape.schema l.yielded l.fn.count.n l.count.n × (l.fn.count.n ≤ l.count.n)
