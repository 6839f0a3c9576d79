use Rattle.ras_cover.proofs.Extending.{cover-extended}
use Rattle.ras_cover.proofs.law.a_cover_is_met_where_there_is_an_extension.Goals as goal

pub returns : goal.returns
returns c = cover-extended
