use Rattle.ras_vectors.proofs.Violations.{careless_violation, desk_violation, unset_violation}
use Rattle.ras_vectors.proofs.runs.unsafe_systems.Goals as goal

pub returns : goal.returns
returns c = record {
  careless_violation = careless_violation;
  careless = λ safe. safe _ _ _ _ careless_violation;
  desk_violation = desk_violation;
  desk = λ safe. safe _ _ _ _ desk_violation;
  unset = λ safe. safe _ _ _ _ unset_violation;
}
