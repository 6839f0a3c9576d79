use Rattle.std.proofs.Common.{refl, ap, arith}
use Rattle.ras_core.specs.CoreStates.{EntryParts}
use Rattle.ras_core_vectors.specs.Searches.{away_at}
use Rattle.ras_core_vectors.proofs.Entries.{away-c-admissible, not_a-admissible, c-inside, not_a-comes, not_a-reasoned, not_a-worked, entry-is, one-kept}
use Rattle.ras_core_vectors.proofs.Quiet.{is_quiet-passed}
use Rattle.ras_core_vectors.proofs.searches.a_search_that_drops_and_skips.Goals as goal

pub returns-clause-lawful : goal.returns-clause-lawful
returns-clause-lawful c = (
  record { bookkeeping = (omega arith, refl, omega arith); states = away-c-admissible },
  (
    record { bookkeeping = (omega arith, refl, omega arith); states = not_a-admissible },
    (
      record { bookkeeping = (λ e. absurd (omega (arith, e)), (_, (refl, refl)), (_, (refl, refl))); states = c-inside },
      (
        record { bookkeeping = (_, (refl, refl, refl)); states = tt },
        (
          record { bookkeeping = (_, (refl, refl, refl)); states = tt },
          (
            record { bookkeeping = (_, (refl, refl, refl)); states = tt },
            (
              record { bookkeeping = ((_, (refl, refl, refl)), one-kept); states = (not_a-comes, not_a-reasoned) },
              (
                record { bookkeeping = (_, (refl, refl, refl)); states = λ e known. not_a-worked e (ap (λ (y : EntryParts). y.submissions) (entry-is _ e known)) },
                (
                  record { bookkeeping = (is_quiet-passed (away_at 8) refl, refl); states = tt },
                  tt,
                ),
              ),
            ),
          ),
        ),
      ),
    ),
  ),
)
