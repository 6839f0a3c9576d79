use Rattle.std.proofs.Common.{refl, arith}
use Rattle.ras_core_vectors.proofs.Entries.{c-admissible, b-admissible}
use Rattle.ras_core_vectors.proofs.searches.a_search_that_spills.Goals as goal

pub returns-clause-lawful : goal.returns-clause-lawful
returns-clause-lawful c = (
  record { bookkeeping = (omega arith, refl, omega arith); states = c-admissible },
  (
    record { bookkeeping = (_, (refl, refl, refl)); states = tt },
    (
      record { bookkeeping = ((_, (refl, refl, refl)), refl, refl, refl); states = b-admissible },
      tt,
    ),
  ),
)
