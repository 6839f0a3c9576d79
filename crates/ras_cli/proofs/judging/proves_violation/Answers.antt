use Rattle.ras_cli.proofs.judging.proves_violation.Goals as goal

pub returns : goal.returns
returns c = c.a_good_evidence_of_a_violation_suffices.ensures c.args.system.now c.args.db.now c.args.run.now c.requires
