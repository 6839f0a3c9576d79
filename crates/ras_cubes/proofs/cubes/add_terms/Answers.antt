use Rattle.std.proofs.Common.{◌≡◌, ℕ, sym, ◌∙◌, ap, subst, length, arith}
use Rattle.ras_cubes.specs.Dues.{AddsDue, IsDueTo, IsTermDue}
use Rattle.ras_cubes.proofs.Adding.{due-start, due-on}
use Rattle.ras_cubes.proofs.cubes.add_terms.Goals as goal

pub loop-i-init : goal.loop-i-init
loop-i-init c = due-start (IsTermDue c.args.closure.now c.args.terms.now) c.args.literals.now

pub loop-i-preserved : goal.loop-i-preserved
loop-i-preserved c = due-on (IsTermDue c.args.closure.now c.args.terms.now) c.loop-i.i c.args.literals.now c.loop-i.literals c.add_term.new.literals c.loop-i.invariant c.in_ok-add_term.ensures

pub returns : goal.returns
returns c =
    let n : c.len-i-end.result ≡ length c.args.closure.now.table.terms = rw (← c.table.ensures) c.len-i-end.ensures in let ge = c.loop-i-test.false in let le = c.loop-i.auto.i-end in
    let same : c.loop-i.i ≡ length c.args.closure.now.table.terms = omega arith in
    subst (λ (m : ℕ). AddsDue (IsDueTo (IsTermDue c.args.closure.now c.args.terms.now) m) c.args.literals.now c.loop-i.literals) same c.loop-i.invariant
