use Rattle.ras_core_vectors.proofs.Leading.{b-tight, superfluous}
use Rattle.ras_core_vectors.proofs.leads.what_is_tight.Goals as goal

pub returns-clause-tight : goal.returns-clause-tight
returns-clause-tight c = b-tight

pub returns-clause-literal_too_many : goal.returns-clause-literal_too_many
returns-clause-literal_too_many c = superfluous
