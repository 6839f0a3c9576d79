use Rattle.ras_leads.proofs.MetLarger.{met-both}
use Rattle.ras_leads.proofs.law.a_cover_is_met_where_the_problem_is.Goals as goal

pub returns : goal.returns
returns c = met-both
