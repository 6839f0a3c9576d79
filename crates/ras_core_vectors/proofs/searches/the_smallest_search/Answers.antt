use Rattle.std.proofs.Common.{refl, arith, []}
use Rattle.ras_vectors.specs.Small.{still}
use Rattle.ras_core.specs.Journals.{replay_from, first_state}
use Rattle.std.specs.Prelude.{take}
use Rattle.ras_core_vectors.specs.Searches.{still_journal}
use Rattle.ras_core_vectors.proofs.Entries.{still-admissible, still-worked}
use Rattle.ras_core_vectors.proofs.Quiet.{is_quiet-passed}
use Rattle.ras_core_vectors.proofs.searches.the_smallest_search.Goals as goal

pub returns-clause-lawful : goal.returns-clause-lawful
returns-clause-lawful c = (
  record { bookkeeping = (omega arith, refl, omega arith); states = still-admissible },
  (
    record { bookkeeping = (_, (refl, refl, refl)); states = tt },
    (
      record { bookkeeping = (_, (refl, refl, refl)); states = λ e known. still-worked e },
      (
        record { bookkeeping = (is_quiet-passed (replay_from (first_state still []) (take 3 still_journal)) refl, refl); states = tt },
        tt,
      ),
    ),
  ),
)
