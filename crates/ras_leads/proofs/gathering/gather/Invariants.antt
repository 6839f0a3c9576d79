use Rattle.ras_leads.specs.Gathered.{Gathers}
use Rattle.ras_leads.proofs.gathering.gather.Given as goal

abbrev pub invariant-loop-cube : goal.invariant-loop-cube
invariant-loop-cube l = Gathers l.fn.cubes l.yielded l.cubes
