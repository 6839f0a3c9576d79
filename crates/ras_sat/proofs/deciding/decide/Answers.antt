use Rattle.std.proofs.Common.{◌≡◌, [], ◌∷◌, ◌++◌, List, sym, ◌∙◌, ap, subst, arith, length, length-append}
use Rattle.ras_sat.specs.Searches.{IsLone}
use Rattle.ras_sat.proofs.deciding.decide.Goals as goal

pub returns-in-None-clause-clashing : goal.returns-in-None-clause-clashing
returns-in-None-clause-clashing c = λ clash. subst IsLone c.in-Leave.is (c.loop-step.invariant.lone clash).1

pub returns-in-End-clause-clashing : goal.returns-in-End-clause-clashing
returns-in-End-clause-clashing c = λ clash. subst IsLone c.in-End.is (c.loop-step.invariant.lone clash).1

pub loop-step-preserved-in_ok-step-in-Enter : goal.loop-step-preserved-in_ok-step-in-Enter
loop-step-preserved-in_ok-step-in-Enter c = record {
  place = c.in_ok-step-in-Enter.ensures.place;
  right = c.in_ok-step-in-Enter.ensures.right;
  lone = λ clash. let now = c.in_ok-step-in-Enter.ensures.lone clash in (now.0 ∙ (c.loop-step.invariant.lone clash).0, now.1);
}

nothing_last : {X : Type 0} (xs : List X) (x : X) → xs ++ x ∷ [] ≡ [] → ⊥
nothing_last xs x e = omega (arith, length-append xs (x ∷ []), ap length e)

pub loop-step-preserved : goal.loop-step-preserved
loop-step-preserved c = record {
  place = c.in_ok-step-in-Some.ensures.place;
  right = c.in_ok-step-in-Some.ensures.right;
  lone = λ clash. absurd (nothing_last c.pop.new.self.items c.in-Some.split (sym c.in-Some.ensures.items ∙ (c.loop-step.invariant.lone clash).0));
}
