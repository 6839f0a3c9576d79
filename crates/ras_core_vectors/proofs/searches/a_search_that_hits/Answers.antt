use Rattle.std.proofs.Common.{refl, arith}
use Rattle.ras_core_vectors.proofs.Entries.{unset-initial}
use Rattle.ras_core_vectors.proofs.searches.a_search_that_hits.Goals as goal

pub returns-clause-lawful : goal.returns-clause-lawful
returns-clause-lawful c = (record { bookkeeping = (omega arith, refl); states = (refl, unset-initial) }, tt)
