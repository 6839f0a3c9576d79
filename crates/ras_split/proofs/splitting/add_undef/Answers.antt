use Rattle.std.proofs.Common.{◌≡◌, sym, ◌∙◌}
use Rattle.ras_split.proofs.Parting.{undef-none, undef-added, open-yet}
use Rattle.ras_split.proofs.splitting.add_undef.Goals as goal

pub returns-then-is_err : goal.returns-then-is_err
returns-then-is_err c =
    undef-none c.args.closure.now c.in_ok-more.more c.add_same.new.self c.args.term c.undef_of-undef.result c.add_same.result c.args.cases.now c.in_ok-more.ensures c.requires.no_clash c.undef_of-undef.ensures
    c.add_same.ensures.asserted (c.add_same.ensures.no_model.0 (sym c.is_err.ensures.value ∙ c.if-is_err.true))

pub returns : goal.returns
returns c =
    rw c.in_ok-push.ensures.ok
    (undef-added c.args.closure.now c.in_ok-more.more c.add_same.new.self c.in_ok-case.case c.args.term c.undef_of-undef.result c.add_same.result c.args.cases.now c.in_ok-case.ensures c.in_ok-more.ensures
    c.requires.no_clash c.undef_of-undef.ensures c.add_same.ensures.asserted (open-yet c.add_same.result (sym c.is_err.ensures.value ∙ c.if-is_err.false) c.add_same.ensures.asserted.ok)
    c.known-2.ensures.table)
