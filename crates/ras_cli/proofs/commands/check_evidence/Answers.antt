use Rattle.ras_cli.specs.Outcomes.{IsVerdict}
use Rattle.ras_cli.proofs.Joining.{of_pair, handed_pair}
use Rattle.ras_cli.proofs.commands.check_evidence.Goals as goal

pub judged-requires : goal.judged-requires
judged-requires g c = c.a_text_is_complete.ensures.complete c.in_ok-spec.ensures.pair.1.0 c.in_ok-spec.evidence c.in_ok-spec.ensures.pair.1.2

pub returns-in_err-spec-clause-comes : goal.returns-in_err-spec-clause-comes
returns-in_err-spec-clause-comes g c =
    handed_pair (g.H.Shelf.told c.args.shelf.now) (g.H.Shelf.faults c.args.shelf.now) (g.H.Shelf.faults c.load_pair.new.shelf) IsVerdict c.args.file.now c.args.evidence.now
    c.from_residual.result c.in_err-spec.field-0.0 c.from_residual.ensures.1 c.in_err-spec.ensures.no_pair

pub returns-clause-comes : goal.returns-clause-comes
returns-clause-comes g c =
    of_pair (g.H.Shelf.told c.args.shelf.now) (g.H.Shelf.faults c.args.shelf.now) (g.H.Shelf.faults c.load_pair.new.shelf) IsVerdict c.args.file.now c.args.evidence.now
    c.in_ok-judged.field-0 c.in_ok-spec.spec c.in_ok-spec.evidence c.in_ok-spec.ensures.pair c.in_ok-judged.ensures
