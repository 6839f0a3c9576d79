use Rattle.ras_cli.specs.Loads.{OnEnded, HasNoPair}
use Rattle.ras_cli.proofs.Joining.{handed_on, no_pair, left_behind}
use Rattle.ras_cli.proofs.loading.load_pair.Goals as goal

pub returns-in_err-evidence-clause-no_pair : goal.returns-in_err-evidence-clause-no_pair
returns-in_err-evidence-clause-no_pair g c =
    handed_on (λ h. OnEnded h (HasNoPair (g.H.Shelf.told c.args.shelf.now) (g.H.Shelf.faults c.args.shelf.now) (g.H.Shelf.faults c.load_evidence.new.shelf) c.args.file.now c.args.evidence.now))
    c.from_residual-in_err-evidence.result c.in_err-evidence.field-0.0 c.from_residual-in_err-evidence.ensures.1
    (no_pair (g.H.Shelf.told c.args.shelf.now) (g.H.Shelf.told c.load_spec.new.shelf) (g.H.Shelf.faults c.args.shelf.now) (g.H.Shelf.faults c.load_spec.new.shelf)
    (g.H.Shelf.faults c.load_evidence.new.shelf) c.args.file.now c.args.evidence.now c.in_err-evidence.field-0.0 c.in_ok-spec.spec c.in_ok-spec.ensures.spec
    (c.load_spec.ensures.left.held c.args.evidence.now) (c.in_ok-spec.ensures.left.stands (λ u. u) c.args.evidence.now) c.in_err-evidence.ensures.no_evidence)

pub returns-in_err-evidence-clause-left : goal.returns-in_err-evidence-clause-left
returns-in_err-evidence-clause-left g c =
    left_behind (g.H.Shelf.told c.args.shelf.now) (g.H.Shelf.told c.load_spec.new.shelf) (g.H.Shelf.told c.load_evidence.new.shelf) (g.H.Shelf.faults c.args.shelf.now)
    (g.H.Shelf.faults c.load_spec.new.shelf) (g.H.Shelf.faults c.load_evidence.new.shelf) c.in_ok-spec.spec c.in_err-evidence.field-0.0 c.from_residual-in_err-evidence.result
    c.in_ok-spec.ensures.left c.in_err-evidence.ensures.left c.from_residual-in_err-evidence.ensures.1
