use Rattle.std.proofs.Common.{◌≡◌, ◌≤◌, ℕ, length, sym, ◌∙◌, ap, subst, arith}
use Rattle.ras_closure.specs.Closures.{ClosureParts}
use Rattle.ras_closure.specs.Numbered.{TableParts}
use Rattle.ras_enlarge.specs.Numbers.{AreNumberedTo}
use Rattle.ras_enlarge.proofs.NextNumbers.{numbered-start}
use Rattle.ras_enlarge.proofs.numbering.number_terms.Goals as goal

pub returns : goal.returns
returns c =
    let n : c.len-count.result ≡ length c.args.case.now.closure.table.terms =
    c.len-count.ensures ∙ ap (λ (b : TableParts). length b.terms) (c.table.ensures ∙ ap (λ (x : ClosureParts). x.table) c.closure.ensures) in
    let ge = c.loop-i-test.false in let le = c.loop-i.auto.i-end in
    let same : c.loop-i.i ≡ length c.args.case.now.closure.table.terms = omega arith in
    subst (λ (m : ℕ). AreNumberedTo c.args.case.now c.args.db.now c.args.values.now m c.loop-i.numbers.items c.loop-i.sizes.items) same c.loop-i.invariant
