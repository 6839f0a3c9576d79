use Rattle.std.proofs.Common.{refl, [], ◌∷◌}
use Rattle.ras_vectors.specs.Small.{still, is_set, still_trees, two, is_b, is_c, two_trees}
use Rattle.ras_vectors.proofs.DataTests.{is_shape-passed, are_cubes-passed}
use Rattle.ras_vectors.proofs.GoodEvidence.{good_still, good_two}
use Rattle.ras_vectors.proofs.runs.safe_systems.Goals as goal

pub returns : goal.returns
returns c =
    let exact = c.no_fault_is_first_exactly_in_a_system.ensures in record {
      still = c.a_good_evidence_suffices.ensures still (is_set ∷ []) still_trees ((exact still (is_shape-passed still.shape refl) (are_cubes-passed still.goals refl)).0 refl).0 refl good_still;
      two = c.a_good_evidence_suffices.ensures two (is_c ∷ is_b ∷ []) two_trees ((exact two (is_shape-passed two.shape refl) (are_cubes-passed two.goals refl)).0 refl).0 refl good_two;
    }
