use Rattle.ras_sat.proofs.judging.judge.Goals as goal

pub returns-in-None : goal.returns-in-None
returns-in-None c = rw c.in-None.is at c.in_ok-of.ensures
