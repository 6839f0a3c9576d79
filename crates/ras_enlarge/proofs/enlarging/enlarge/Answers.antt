use Rattle.std.proofs.Common.{◌≡◌, ℕ, List, length, sym, ◌∙◌, ap, subst}
use Rattle.ras_logic.specs.declared.term.Base.TheVariants.{Param}
use Rattle.ras_closure.specs.Closures.{ClosureParts}
use Rattle.ras_closure.specs.Elements.{number}
use Rattle.ras_closure.specs.Values.{AreElementsOf}
use Rattle.ras_closure.specs.Numbered.{TableParts}
use Rattle.ras_cover.specs.Extensions.{IsDbOver}
use Rattle.ras_enlarge.specs.Numbers.{size_in}
use Rattle.ras_enlarge.proofs.Extended.{case-extension}
use Rattle.ras_enlarge.proofs.enlarging.enlarge.Goals as goal

pub returns : goal.returns
returns c =
    let whole = c.table.ensures ∙ ap (λ (x : ClosureParts). x.table) c.closure.ensures in
    let over : IsDbOver c.args.case.now.closure.table c.args.db.now (number c.in_ok-made.made.numbers.items) (size_in c.in_ok-made.made.sizes.items) c.in_ok-db.db =
    subst (λ (xs : List ℕ). IsDbOver c.args.case.now.closure.table c.args.db.now (number xs) (size_in c.in_ok-made.made.sizes.items) c.in_ok-db.db) c.deref.ensures.value c.in_ok-db.ensures in
    let params : AreElementsOf c.args.case.now.closure.table.terms (number c.in_ok-made.made.numbers.items) Param (length c.args.case.now.closure.table.problem.params) c.in_ok-params.params =
    subst (λ (xs : List ℕ). AreElementsOf c.args.case.now.closure.table.terms (number xs) Param (length c.args.case.now.closure.table.problem.params) c.in_ok-params.params) c.deref-2.ensures.value
    (subst (λ (t : TableParts). AreElementsOf t.terms (number c.deref-2.result.now) Param (length t.problem.params) c.in_ok-params.params) whole c.in_ok-params.ensures) in
    rw (c.in_ok-vars.ensures, c.in_ok-rows.ensures)
    (case-extension c.args.case.now c.known.ensures.table c.known.ensures.closure c.known.ensures.standing c.args.db.now c.args.values.now c.requires.case c.args.cube.now c.requires.cube c.requires.hold
    (number c.in_ok-made.made.numbers.items) (size_in c.in_ok-made.made.sizes.items) c.in_ok-made.ensures.numbers c.in_ok-db.db over c.in_ok-params.params params)
