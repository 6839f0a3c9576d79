use Rattle.ras_closure.proofs.asserting.assert_terms.Goals as goal

pub returns-then-same-clause-clash : goal.returns-then-same-clause-clash
returns-then-same-clause-clash c = rw c.is_err.ensures.value c.add_same.ensures.facts_clash

pub returns-clause-clash : goal.returns-clause-clash
returns-clause-clash c = rw c.is_err-2.ensures.value c.add_apart.ensures.facts_clash
