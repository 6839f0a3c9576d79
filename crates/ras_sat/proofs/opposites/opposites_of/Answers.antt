use Rattle.std.proofs.Common.{◌≡◌, ℕ, ◌<◌, ◌^◌, ◌≤◌, List, length, sym, ◌∙◌, subst, arith, ap}
use Rattle.std.specs.Prelude.{slice_get, Some, All}
use Rattle.std.proofs.lemmas.Result.{IfOk-weaker}
use Rattle.std.proofs.lemmas.Option.{slice_get-get_or, slice_get_within}
use Rattle.ras_logic.specs.declared.literal.Literal.{Literal}
use Rattle.ras_logic.specs.declared.problem.Problem.{Problem}
use Rattle.ras_sat.specs.Tasks.{AreOpposites, opposites_of_literals}
use Rattle.ras_refute.proofs.Choices.{rows-small}
use Rattle.ras_sat.proofs.Opposing.{opposites-are}
use Rattle.ras_sat.proofs.opposites.opposites_of.Goals as goal

pub opposites-requires : goal.opposites-requires
opposites-requires c =
    let i = c.requires.instance in
    let room : c.len-rows.result ≤ 65535 = c.len-rows.ensures.room in
    let few : length c.args.premise.now.rows ≤ 65535 = omega (arith, room, c.len-rows.ensures.count) in
    subst (All (λ k. k < 2 ^ 16)) (sym c.as_slice.ensures.items) (rows-small c.args.premise.now.rows i.formula.rows c.args.instance.now.rows few i.rows_of)

pub returns : goal.returns
returns c =
    let i = c.requires.instance in
    let f : Problem = c.get-formula.result.now in
    let known : slice_get c.args.formulas.now c.args.instance.now.formula ≡ Some f =
    rw c.get-formula.ensures (slice_get-get_or c.args.formulas.now c.args.instance.now.formula c.index-formulas-instance.result (slice_get_within c.args.formulas.now c.args.instance.now.formula i.formula i.known)
    ∙ sym (ap (λ (g : Problem). Some g) c.index-formulas-instance.is)) in
    IfOk-weaker c.opposites.result (λ ls. ls ≡ opposites_of_literals c.as_slice.result.now c.literals.result.now)
    (AreOpposites c.args.shape.now c.args.premise.now c.args.formulas.now c.args.instance.now)
    (λ ls is. opposites-are c.args.shape.now c.args.premise.now c.args.formulas.now c.requires.fits c.args.instance.now i f known c.known.ensures.cube c.known.ensures.literals ls
    (subst (λ (ms : List Literal). ls ≡ opposites_of_literals c.args.instance.now.rows ms) c.literals.ensures (subst (λ (rs : List ℕ). ls ≡ opposites_of_literals rs c.literals.result.now) c.as_slice.ensures.items is)))
    c.opposites.ensures
