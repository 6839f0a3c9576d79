use Rattle.std.proofs.Common.{◌≡◌, List, Option, sym, ◌∙◌, ap, subst}
use Rattle.std.specs.Prelude.{None}
use Rattle.ras_logic.specs.declared.term.Term.{Term}
use Rattle.ras_split.specs.Standing.{FillsGap}
use Rattle.ras_split.proofs.Owning.{get_or-same, some-there, none-there}
use Rattle.ras_split.proofs.Filling.{fills-gap, filled-already}
use Rattle.ras_split.proofs.standing.fill_gap.Goals as goal

pub returns-then-is_some : goal.returns-then-is_some
returns-then-is_some c =
    let x = some-there c.index.result.now (sym c.is_some.ensures ∙ c.if-is_some.true) in
    filled-already c.args.terms.now.items c.args.gap x.0 (get_or-same c.args.terms.now.items c.args.gap.class None c.index.result.now c.requires ∙ sym c.index.ensures ∙ x.1)

pub returns : goal.returns
returns c =
    let none = none-there c.index.result.now (sym c.is_some.ensures ∙ c.if-is_some.false) in
    subst (λ (xs : List (Option Term)). FillsGap c.args.terms.now.items c.args.gap xs) (sym c.put.ensures)
    (fills-gap c.args.terms.now.items c.args.gap c.requires (get_or-same c.args.terms.now.items c.args.gap.class None c.index.result.now c.requires ∙ sym c.index.ensures ∙ none))
