-- What a model that holds of facts says of the instances.
use Rattle.std.proofs.Common.{◌≡◌, ℕ, zero, suc, ◌+◌, ◌<◌, Bool, true, false, List, [], ◌∷◌, map, length, get_or, refl, ◌∙◌, ap, subst, arith, nat_eq}
use Rattle.std.specs.Prelude.{slice_get, Some, None, Option, Contains, not, IfSome}
use Rattle.std.proofs.lemmas.List.Elements.{Contains-get_or, All-contains}
use Rattle.std.proofs.lemmas.Option.{slice_get-get_or}
use Rattle.std.proofs.Common.{◌⊎◌, inl, inr, ⊎_elim}
use Rattle.ras_logic.specs.declared.literal.Literal.{Literal}
use Rattle.ras_logic.specs.declared.literal.Literal.TheVariants.{Equal}
use Rattle.ras_logic.specs.declared.problem.Problem.{Problem}
use Rattle.ras_logic.specs.declared.raw_db.RawDb.{RawDb}
use Rattle.ras_logic.specs.declared.values.Values.{Values}
use Rattle.ras_logic.specs.Formulas.{negated, replace}
use Rattle.ras_logic.specs.Truth.{holds, value}
use Rattle.ras_logic.specs.Refutations.{chosen_row}
use Rattle.ras_closure.specs.declared.model.Model.{Model}
use Rattle.ras_sat.specs.declared.choice.Choice.{Choice}
use Rattle.ras_sat.specs.declared.instance.Instance.{Instance}
use Rattle.ras_sat.specs.declared.task.Task.{Task}
use Rattle.ras_sat.specs.Instances.{IsFalsified}
use Rattle.ras_sat.specs.Answers.{IsEscape}
use Rattle.ras_sat.specs.Tasks.{IsTask, AreOpposites, opposites_at}
use Rattle.ras_sat.specs.Choices.{HoldsSome, HoldsNone, IsConsidered}
use Rattle.ras_sat.specs.Verdicts.{IsCase, IsUnsplit}
use Rattle.ras_known.proofs.FactModels.{IsModelOfFacts}

-- an element of a mapped list comes from one of the list
mapped-from : {A B : Type 0} (f : A → B) (xs : List A) (y : B) → Contains (map f xs) y → (x : A) × Contains xs x × (f x ≡ y)
mapped-from f [] y h = absurd (omega (arith, h.1))
mapped-from f (x ∷ xs) y (zero, lt, e) = (x, (0, omega arith, refl), e)
mapped-from f (x ∷ xs) y (suc k, lt, e) = let r = mapped-from f xs y (k, omega (arith, lt), e) in (r.0, (suc r.1.0, omega (arith, r.1.1), r.1.2), r.2)

not_true : (b : Bool) → not b ≡ true → b ≡ false
not_true true h = absurd (cc)
not_true false h = refl

double_not : (b : Bool) → not (not b) ≡ b
double_not true = refl
double_not false = refl

negated-fails : (d : RawDb) (v : Values) (l : Literal) → holds d v (negated l) ≡ true → holds d v l ≡ false
negated-fails d v (Equal left right true) h = not_true (nat_eq (value d v left) (value d v right)) h
negated-fails d v (Equal left right false) h = ap not h

module _ (t : Task) (task : IsTask t) (facts : Problem) (at : IsCase t facts) (d : RawDb) (v : Values) (model : IsModelOfFacts t.shape.now facts d v) where
  -- an opposite that holds falsifies the instance
  falsified : (k : ℕ) (i : Instance) → slice_get t.instances.now k ≡ Some i → k < length t.opposites.now → HoldsSome d v (opposites_at t k) → IsFalsified d v t.formulas.now i
  falsified k i known lt some =
      let o : AreOpposites t.shape.now t.premise.now t.formulas.now i (opposites_at t k) = task.opposites.each k i lt known in
      let l : Literal = some.0 in
      let from = mapped-from (λ (m : Literal). negated (replace (chosen_row i.rows) m)) o.formula.literals l (subst (λ (ls : List Literal). Contains ls l) o.opposites_are some.1) in
      record {
        formula = o.formula;
        known = o.known;
        literal = from.0;
        among = from.1;
        fails = negated-fails d v (replace (chosen_row i.rows) from.0) (ap (holds d v) from.2 ∙ some.2);
      }

  pub model-escapes : ((k : ℕ) → k < length t.opposites.now → HoldsSome d v (opposites_at t k)) → IsEscape t.shape.now t.premise.now t.formulas.now t.instances.now d v
  model-escapes each = record {
    database = model.database;
    satisfies = record {
      values = rw (← at.rows, ← at.params) model.satisfies.values;
      literals = λ k l lt. All-contains (λ (m : Literal). holds d v m ≡ true) facts.literals (get_or t.premise.now.literals k l) model.satisfies.literals
          (at.premise (get_or t.premise.now.literals k l) (Contains-get_or t.premise.now.literals k l lt));
    };
    falsified = λ k i lt.
        let within : k < length t.opposites.now = rw task.as_many lt in
        falsified k (get_or t.instances.now k i) (slice_get-get_or t.instances.now k i lt) within (each k within);
  }

  pub model-unsplit : (k : ℕ) → k < length t.opposites.now → HoldsNone d v (opposites_at t k) → IsUnsplit t facts.literals k
  model-unsplit k lt none = record {
    within = rw (← task.as_many) lt;
    fresh = λ l inside among.
        let yes = All-contains (λ (m : Literal). holds d v m ≡ true) facts.literals l model.satisfies.literals among in
        let no = All-contains (λ (m : Literal). holds d v m ≡ false) (opposites_at t k) l none inside in
        absurd (clash (holds d v l) yes no);
  }
    where
      clash : (b : Bool) → b ≡ true → b ≡ false → ⊥
      clash true y n = cc
      clash false y n = cc

-- the best choice of the first instances
pub record IsBest (m : Model) (all : List (List Literal)) (n : ℕ) (best : Option Choice) : Type 0 where
  pub none : best ≡ None → (k : ℕ) → k < n → HoldsSome m.db m.values (get_or all k [])
  pub within : IfSome best (λ (c : Choice). c.instance < length all)
  pub all_fail : IfSome best (λ (c : Choice). HoldsNone m.db m.values (get_or all c.instance []))

pub best-more : (m : Model) (all : List (List Literal)) (n : ℕ) (opposites : List Literal) (before after : Option Choice) → n < length all → get_or all n [] ≡ opposites → IsBest m all n before
    → IsConsidered m n opposites before after → IsBest m all (n + 1) after
best-more m all n opposites before None lt at best considered = record {
  none = λ _ k less. go k (below_or k less);
  within = tt;
  all_fail = tt;
}
  where
    below_or : (k : ℕ) → k < n + 1 → (k < n) ⊎ (k ≡ n)
    below_or k less = grind arith

    go : (k : ℕ) → (k < n) ⊎ (k ≡ n) → HoldsSome m.db m.values (get_or all k [])
    go k (inl less) = best.none considered.0 k less
    go k (inr e) = rw (e, at) considered.1
best-more m all n opposites before (Some c) lt at best considered = record {
  none = λ e. absurd (no_some e);
  within = ⊎_elim (λ (e : before ≡ Some c). subst (λ (o : Option Choice). IfSome o (λ (q : Choice). q.instance < length all)) e best.within)
      (λ (h : (c.instance ≡ n) × HoldsNone m.db m.values opposites). let e = h.0 in rw e lt) considered;
  all_fail = ⊎_elim (λ (e : before ≡ Some c). subst (λ (o : Option Choice). IfSome o (λ (q : Choice). HoldsNone m.db m.values (get_or all q.instance []))) e best.all_fail)
      (λ (h : (c.instance ≡ n) × HoldsNone m.db m.values opposites). rw (h.0, at) h.1) considered;
}
  where
    no_some : Some c ≡ None → ⊥
    no_some e = cc
