use Rattle.std.proofs.Common.{◌≡◌, arith, subst, ◌∙◌, ap}
use Rattle.ras_logic.specs.declared.term.Term.{Term}
use Rattle.ras_logic.specs.Terms.{base_term}
use Rattle.ras_closure.specs.Numbered.{IsAt}
use Rattle.ras_closure.specs.Values.{base_of}
use Rattle.ras_closure.proofs.Bases.{elements-put, whole_base, base_of-same}
use Rattle.ras_closure.proofs.values.note_element.Goals as goal

pub returns : goal.returns
returns c =
    let is : c.term-term.result.now ≡ base_term (base_of c.args.bases c.in-Some.k) =
    whole_base c.term-term.result.now (omega (arith, c.if-functions-gt0.false, c.len-functions.ensures.count)) ∙ ap base_term c.in-Some.ensures in
    elements-put c.args.table.now.terms c.args.numbers.now (base_of c.args.bases) _ c.args.i c.args.elements.now c.requires.elements c.in-Some.k c.if-k-elements.false
    (subst (λ (s : Term). IsAt c.args.table.now.terms c.args.i s) is c.term-term.ensures) (λ k e. base_of-same c.args.bases k c.in-Some.k e)
