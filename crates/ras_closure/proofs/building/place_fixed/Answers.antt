use Rattle.std.proofs.Common.{◌≡◌, ℕ, ◌++◌, ◌∷◌, [], length, length-append, arith, ◌∙◌, ap}
use Rattle.ras_logic.specs.declared.term.Term.{Term}
use Rattle.ras_closure.specs.declared.link.Link.TheVariants.{Base}
use Rattle.ras_closure.specs.Building.{fixed_term}
use Rattle.ras_closure.proofs.Pushing.{part-push}
use Rattle.ras_closure.proofs.Sides.{fixed-more, fixed-known, fixed-fresh, fixed-path}
use Rattle.ras_closure.proofs.building.place_fixed.Goals as goal

pub loop-i-preserved : goal.loop-i-preserved
loop-i-preserved c =
    let t : Term = fixed_term c.args.schema.now.sorts c.loop-i.i in
    let is : c.fixed.result ≡ t = c.fixed.ensures ∙ ap (λ (s : ℕ). fixed_term s c.loop-i.i) c.sort_count-sorts.ensures in
    let terms : c.append.new.terms ≡ c.loop-i.terms ++ t ∷ [] = c.in_ok-append.ensures.terms ∙ ap (λ (u : Term). c.loop-i.terms ++ u ∷ []) is in
    record {
      part = rw (terms, c.in_ok-append.ensures.links)
          (part-push c.args.schema.now c.args.problem.now.literals c.loop-i.terms c.loop-i.links c.loop-i.invariant.part t
          (fixed-known c.args.schema.now c.args.problem.now.literals c.loop-i.i (omega (arith, c.loop-i-test.true, c.sort_count-sorts.ensures, ap length c.constants.ensures)))
          (fixed-fresh c.args.schema.now c.loop-i.terms c.loop-i.i c.loop-i.invariant.long c.loop-i.invariant.fixed) Base (fixed-path c.args.schema.now.sorts c.loop-i.i) c.in_ok-append.ensures.few);
      long = rw terms (omega (arith, length-append c.loop-i.terms (t ∷ []), c.loop-i.invariant.long));
      fixed = rw terms (fixed-more c.args.schema.now c.loop-i.terms c.loop-i.i c.loop-i.invariant.long c.loop-i.invariant.fixed);
    }
