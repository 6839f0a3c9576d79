use Rattle.ras_refute.proofs.walk.pass_split.Goals as goal

pub returns : goal.returns
returns c = rw (← c.literals.ensures, ← c.deref.ensures.value, ← c.in_ok-open_split.ensures.waiting, c.deref.ensures.value) c.in_ok-next_case.ensures
