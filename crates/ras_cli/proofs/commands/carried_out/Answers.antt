use Rattle.ras_cli.proofs.commands.carried_out.Goals as goal

pub returns-in-Check-clause-comes : goal.returns-in-Check-clause-comes
returns-in-Check-clause-comes g c = rw c.in-Check.is c.check_evidence.ensures.comes

pub returns-in-Replay-clause-comes : goal.returns-in-Replay-clause-comes
returns-in-Replay-clause-comes g c = rw c.in-Replay.is c.replay.ensures.comes
