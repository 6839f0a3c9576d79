use Rattle.std.proofs.Common.{refl}
use Rattle.ras_vectors.specs.Hiring as hiring
use Rattle.ras_vectors.specs.Desk as desk
use Rattle.ras_vectors.specs.Small as small
use Rattle.ras_vectors.specs.Depot as depot
use Rattle.ras_vectors.proofs.DataTests.{is_shape-passed, are_cubes-passed}
use Rattle.ras_vectors.proofs.systems.good_systems.Goals as goal

pub returns : goal.returns
returns c =
    let exact = c.no_fault_is_first_exactly_in_a_system.ensures in record {
      hiring = ((exact hiring.hiring (is_shape-passed hiring.shape refl) (are_cubes-passed hiring.hiring.goals refl)).0 refl).0;
      careless = ((exact hiring.careless (is_shape-passed hiring.shape refl) (are_cubes-passed hiring.careless.goals refl)).0 refl).0;
      desk = ((exact desk.desk (is_shape-passed desk.shape refl) (are_cubes-passed desk.desk.goals refl)).0 refl).0;
      still = ((exact small.still (is_shape-passed small.still.shape refl) (are_cubes-passed small.still.goals refl)).0 refl).0;
      two = ((exact small.two (is_shape-passed small.two.shape refl) (are_cubes-passed small.two.goals refl)).0 refl).0;
      depot = ((exact depot.depot (is_shape-passed depot.shape refl) (are_cubes-passed depot.depot.goals refl)).0 refl).0;
    }
