use Rattle.std.proofs.Common.{refl, ap, arith}
use Rattle.ras_core.specs.CoreStates.{EntryParts}
use Rattle.ras_core_vectors.specs.Searches.{two_at}
use Rattle.ras_core_vectors.proofs.Entries.{c-admissible, b-admissible, c-worked, b-worked, entry-is}
use Rattle.ras_core_vectors.proofs.Quiet.{is_quiet-passed}
use Rattle.ras_core_vectors.proofs.searches.a_search_of_two_entries.Goals as goal

pub returns-clause-lawful : goal.returns-clause-lawful
returns-clause-lawful c = (
  record { bookkeeping = (omega arith, refl, omega arith); states = c-admissible },
  (
    record { bookkeeping = (_, (refl, refl, refl)); states = tt },
    (
      record { bookkeeping = ((_, (refl, refl, refl)), refl, omega arith); states = b-admissible },
      (
        record { bookkeeping = (_, (refl, refl, refl)); states = λ e known. c-worked e (ap (λ (y : EntryParts). y.submissions) (entry-is _ e known)) },
        (
          record { bookkeeping = (_, (refl, refl, refl)); states = tt },
          (
            record { bookkeeping = (_, (refl, refl, refl)); states = λ e known. b-worked e (ap (λ (y : EntryParts). y.cube) (entry-is _ e known)) },
            (
              record { bookkeeping = (is_quiet-passed (two_at 6) refl, refl); states = tt },
              tt,
            ),
          ),
        ),
      ),
    ),
  ),
)
