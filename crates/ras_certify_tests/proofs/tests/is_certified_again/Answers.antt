use Rattle.ras_certify_tests.proofs.tests.is_certified_again.Goals as goal

pub is_valid-requires : goal.is_valid-requires
is_valid-requires c = c.a_text_is_complete.ensures.complete c.args.text.now c.in-Some.evidence c.in-Some.ensures
