use Rattle.ras_system.proofs.NoFaults.{system_without_fault, no_fault_of_system}
use Rattle.ras_system.proofs.law.no_fault_is_first_exactly_in_a_system.Goals as goal

pub returns : goal.returns
returns c = λ s shape cubes. (system_without_fault s shape cubes, λ h. no_fault_of_system s h.0 h.1)
