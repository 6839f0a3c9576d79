use Rattle.ras_system.proofs.NoFaults.{accepted}
use Rattle.ras_system.proofs.system.System.new.Goals as goal

pub invariant_of-result : goal.invariant_of-result
invariant_of-result c =
    accepted c.args.shape c.args.initial c.as_slice.result.now c.args.transitions c.as_slice-2.result.now c.args.goals c.as_slice-3.result.now
    c.as_slice.ensures.items c.as_slice-2.ensures.items c.as_slice-3.ensures.items c.known.ensures.shape c.in_ok-check_system.ensures.cubes c.in_ok-check_system.ensures.first

pub returns-clause-system : goal.returns-clause-system
returns-clause-system c = (invariant_of-result c).0

pub returns-clause-limits : goal.returns-clause-limits
returns-clause-limits c = (invariant_of-result c).1
