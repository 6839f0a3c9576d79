use Rattle.std.proofs.Common.{◌≡◌, [], sym, subst}
use Rattle.std.specs.Prelude.{◌↔◌, IsTrue}
use Rattle.ras_logic.specs.declared.problem.Problem.{Problem}
use Rattle.ras_logic.specs.Formulas.{Fits}
use Rattle.ras_logic.proofs.sorting.cube_fits.Goals as goal

same : (p q : Problem) → p.rows ≡ q.rows → p.params ≡ q.params → p.literals ≡ q.literals → p ≡ q
same p q r s t = λ i. record { rows = r i; params = s i; literals = t i }

pub returns : goal.returns
returns c =
    let p : Problem = record { rows = c.rows.result.now; params = []; literals = c.literals.result.now } in
    subst (λ (q : Problem). IsTrue c.parts_fit.result ↔ Fits c.args.shape.now q)
    (same p c.args.cube.now c.rows.ensures (sym c.known.ensures.cube.none) c.literals.ensures) c.parts_fit.ensures
