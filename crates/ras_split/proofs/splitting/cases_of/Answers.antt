use Rattle.std.proofs.Common.{◌≡◌, ◌+◌, ◌<◌, ◌≤◌, ℕ, sym, ◌∙◌, ap, subst, length, arith}
use Rattle.ras_split.specs.Splits.{AreCasesTo}
use Rattle.ras_split.proofs.Parting.{cases-start, cases-on, cases-open}
use Rattle.ras_split.proofs.splitting.cases_of.Goals as goal

pub loop-i-init : goal.loop-i-init
loop-i-init c = rw (c.in_ok-push.ensures.ok, c.new-cases.ensures) (cases-start c.args.closure c.in_ok-case.case c.in_ok-case.ensures c.requires)

pub split_all-requires : goal.split_all-requires
split_all-requires c e among =
    cases-open c.args.closure c.loop-i.i c.loop-i.cases c.loop-i.invariant
    (let n : c.len-count.result ≡ length c.args.closure.table.terms = rw (← c.table.ensures) c.len-count.ensures in let lt = c.loop-i-test.true in omega arith) e among

pub loop-i-preserved : goal.loop-i-preserved
loop-i-preserved c = cases-on c.args.closure c.loop-i.i c.loop-i.cases c.in_ok-cases.cases c.loop-i.invariant c.in_ok-cases.ensures

pub returns : goal.returns
returns c =
    subst (λ (n : ℕ). AreCasesTo c.args.closure n c.loop-i.cases)
    (let n : c.len-count.result ≡ length c.args.closure.table.terms = rw (← c.table.ensures) c.len-count.ensures in let ge = c.loop-i-test.false in let le = c.loop-i.auto.i-end in omega arith)
    c.loop-i.invariant
