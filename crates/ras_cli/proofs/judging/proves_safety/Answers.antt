use Rattle.ras_cli.proofs.judging.proves_safety.Goals as goal

pub returns : goal.returns
returns c = c.a_good_evidence_of_safety_suffices.ensures c.args.system.now c.args.formulas.now c.args.trees.now c.known.ensures.system c.requires
