use Rattle.ras_core_vectors.proofs.Leading.{b-leads, away-leads, can-reach}
use Rattle.ras_core_vectors.proofs.leads.where_states_lead.Goals as goal

pub returns-clause-all : goal.returns-clause-all
returns-clause-all c =
    b-leads

pub returns-clause-all_but_a : goal.returns-clause-all_but_a
returns-clause-all_but_a c =
    away-leads

pub returns-clause-reach : goal.returns-clause-reach
returns-clause-reach c =
    can-reach
