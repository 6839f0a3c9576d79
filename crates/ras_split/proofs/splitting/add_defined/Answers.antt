use Rattle.std.proofs.Common.{◌≡◌, refl, sym, ◌∙◌}
use Rattle.ras_split.proofs.Parting.{defined-none, defined-added, open-yet}
use Rattle.ras_split.proofs.splitting.add_defined.Goals as goal

pub returns-then-is_err : goal.returns-then-is_err
returns-then-is_err c =
    defined-none c.args.closure c.args.closure c.add_apart.new.self c.args.term c.undef_of-undef.result c.add_apart.result c.args.cases.now refl c.requires.no_clash c.undef_of-undef.ensures
    c.add_apart.ensures.asserted (c.add_apart.ensures.no_model.0 (sym c.is_err.ensures.value ∙ c.if-is_err.true))

pub returns : goal.returns
returns c =
    rw c.in_ok-push.ensures.ok
    (defined-added c.args.closure c.args.closure c.add_apart.new.self c.in_ok-case.case c.args.term c.undef_of-undef.result c.add_apart.result c.args.cases.now c.in_ok-case.ensures refl c.requires.no_clash
    c.undef_of-undef.ensures c.add_apart.ensures.asserted (open-yet c.add_apart.result (sym c.is_err.ensures.value ∙ c.if-is_err.false) c.add_apart.ensures.asserted.ok))
