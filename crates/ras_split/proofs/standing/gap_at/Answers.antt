use Rattle.std.proofs.Common.{◌≡◌, sym, ◌∙◌, ap}
use Rattle.std.specs.Prelude.{None}
use Rattle.ras_split.specs.Standing.{standing}
use Rattle.ras_split.proofs.Owning.{index-standing, some-there, none-there}
use Rattle.ras_split.proofs.standing.gap_at.Goals as goal

pub returns-then-is_some : goal.returns-then-is_some
returns-then-is_some c =
    let is = index-standing c.args.closure.now c.known.ensures.closure c.args.terms.now c.args.term.n c.class_of-class.result c.index-terms-class.result c.requires.as_many c.requires.known
    c.class_of-class.ensures.class c.index-terms-class.is in
    let x = some-there c.index-terms-class.result (sym c.is_some.ensures ∙ c.if-is_some.true) in
    λ u own. (x.0, sym is ∙ x.1)

pub returns : goal.returns
returns c =
    let is = index-standing c.args.closure.now c.known.ensures.closure c.args.terms.now c.args.term.n c.class_of-class.result c.index-terms-class.result c.requires.as_many c.requires.known
    c.class_of-class.ensures.class c.index-terms-class.is in
    let none = none-there c.index-terms-class.result (sym c.is_some.ensures ∙ c.if-is_some.false) in
    record { i = c.args.term.n; within = c.requires.known; class_is = c.class_of-class.ensures.class; none = sym is ∙ none; own = rw c.in-Some.is at c.in_ok-term.ensures }
