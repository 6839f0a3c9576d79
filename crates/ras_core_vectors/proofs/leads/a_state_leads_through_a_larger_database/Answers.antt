use Rattle.std.proofs.Common.{refl}
use Rattle.ras_vectors.proofs.DataTests.{is_shape-passed, are_cubes-passed}
use Rattle.ras_core_vectors.specs.Searches.{grow}
use Rattle.ras_core_vectors.proofs.Growing.{none-set, pick-leads, pick-reaches}
use Rattle.ras_core_vectors.proofs.leads.a_state_leads_through_a_larger_database.Goals as goal

pub returns-clause-here : goal.returns-clause-here
returns-clause-here c =
    λ choices last r. let exact = c.no_fault_is_first_exactly_in_a_system.ensures in
    none-set ((exact grow (is_shape-passed grow.shape refl) (are_cubes-passed grow.goals refl)).0 refl).0 choices last r

pub returns-clause-leads : goal.returns-clause-leads
returns-clause-leads c =
    pick-leads

pub returns-clause-reach : goal.returns-clause-reach
returns-clause-reach c =
    pick-reaches
