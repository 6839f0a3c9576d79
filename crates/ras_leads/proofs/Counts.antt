-- How many of the problems do not clash.
use Rattle.std.proofs.Common.{◌≡◌, ℕ, ◌+◌, ◌-◌, ◌^◌, ◌<◌, ◌≤◌, List, [], ◌∷◌, ◌++◌, length, length-append, sym, ◌∙◌, ap, subst, arith, inl, inr, ⊎_elim}
use Rattle.std.specs.Prelude.{min}
use Rattle.std.proofs.Math.Nat.{min-eq_left, min-eq_right}
use Rattle.ras_logic.specs.declared.problem.Problem.{Problem}
use Rattle.ras_logic.specs.Schemas.{SchemaParts}
use Rattle.ras_logic.specs.Shapes.{ShapeParts, IsShape}
use Rattle.ras_logic.specs.Databases.{IsDatabase}
use Rattle.ras_logic.specs.Formulas.{Fits}
use Rattle.ras_logic.specs.Clashes.{FactsClash}
use Rattle.ras_logic.proofs.Clashes.{clash-none}
use Rattle.ras_closure.specs.Numbered.{IsTable}
use Rattle.ras_closure.specs.Closures.{ClosureParts, IsClosure}
use Rattle.ras_closure.specs.Closings.{IsClosureOf}
use Rattle.ras_closure.proofs.Existence.{not_without}
use Rattle.ras_closure.proofs.Cases.{le_or}
use Rattle.ras_cover.proofs.CoverLaws.{clash-cover, closure-satisfied}
use Rattle.ras_split.proofs.Listed.{all-among, among-none}
use Rattle.ras_cubes.specs.Reduced.{IsOnce}
use Rattle.ras_leads.specs.Covered.{AreOpen, nothing, clashing, one_more, CountsOpen}
use Rattle.ras_leads.specs.Gathered.{CountsOne, IsTidyCover}

-- the literals of a problem with a closure do not clash
pub closure-open : (shape : ShapeParts) (problem : Problem) (c : ClosureParts) → IsShape shape → Fits shape problem → IsTable c.table → IsClosure c → IsClosureOf shape problem c
    → FactsClash shape.schema problem.literals → ⊥
closure-open shape problem c ok fits table closure of clash =
    not_without c table closure of.no_clash
    (λ d v db values facts.
    let s = closure-satisfied shape problem c of d v (record { database = db; values = values; facts = facts }) in
    clash-none shape d (subst (λ (x : ShapeParts). IsDatabase x.schema d) of.shape_is db) problem.rows problem.params v s.values ok.schema problem.literals fits.literals s.literals clash)

pub clash-tidy : (shape : ShapeParts) → IsShape shape → (problem : Problem) → Fits shape problem → FactsClash shape.schema problem.literals → IsTidyCover shape problem []
clash-tidy shape ok problem fits clash = record {
  is = clash-cover shape ok problem fits clash;
  tidy = record {
    no_clash = all-among (λ (c : Problem). FactsClash shape.schema c.literals → ⊥) [] (λ p h. absurd (among-none p h));
    once = all-among (λ (c : Problem). IsOnce c.literals) [] (λ p h. absurd (among-none p h));
  };
}

module _ (schema : SchemaParts) where
  open-clash : (ps os : List Problem) (p : Problem) → AreOpen schema ps os → FactsClash schema p.literals → AreOpen schema (ps ++ p ∷ []) os
  open-clash _ _ p nothing h = clashing p [] [] h nothing
  open-clash _ _ p (clashing q qs os c are) h = clashing q (qs ++ p ∷ []) os c (open-clash qs os p are h)
  open-clash _ _ p (one_more q qs os c are) h = one_more q (qs ++ p ∷ []) os c (open-clash qs os p are h)

  open-more : (ps os : List Problem) (p : Problem) → AreOpen schema ps os → (FactsClash schema p.literals → ⊥) → AreOpen schema (ps ++ p ∷ []) (os ++ p ∷ [])
  open-more _ _ p nothing h = one_more p [] [] h nothing
  open-more _ _ p (clashing q qs os c are) h = clashing q (qs ++ p ∷ []) (os ++ p ∷ []) c (open-more qs os p are h)
  open-more _ _ p (one_more q qs os c are) h = one_more q (qs ++ p ∷ []) (os ++ p ∷ []) c (open-more qs os p are h)

  rose-more : (n before mid now : ℕ) → mid ≡ min (before + n) (2 ^ 64 - 1) → now ≡ min (mid + 1) (2 ^ 64 - 1) → now ≡ min (before + (n + 1)) (2 ^ 64 - 1)
  rose-more n before mid now mid_is now_is =
      ⊎_elim
      (λ (le : before + n ≤ 2 ^ 64 - 1). let same : mid + 1 ≡ before + (n + 1) = omega (arith, mid_is ∙ min-eq_left le) in now_is ∙ ap (λ (x : ℕ). min x (2 ^ 64 - 1)) same)
      (λ (lt : 2 ^ 64 - 1 < before + n).
      let above : 2 ^ 64 - 1 ≤ before + n = omega (arith, lt) in
      let end : mid ≡ 2 ^ 64 - 1 = mid_is ∙ min-eq_right above in
      let past : 2 ^ 64 - 1 ≤ mid + 1 = omega (arith, end) in
      let past_both : 2 ^ 64 - 1 ≤ before + (n + 1) = omega (arith, lt) in now_is ∙ min-eq_right past ∙ sym (min-eq_right past_both))
      (le_or (before + n) (2 ^ 64 - 1))

  pub counts-start : (n : ℕ) → n ≤ 2 ^ 64 - 1 → CountsOpen schema [] n n
  counts-start n le = record { open_ones = []; are = nothing; rose = let e : n ≡ n + 0 = omega arith in e ∙ sym (min-eq_left (omega (arith, le))) }

  pub counts-on : (done : List Problem) (p : Problem) (before mid now : ℕ) → CountsOpen schema done before mid → CountsOne schema p mid now → CountsOpen schema (done ++ p ∷ []) before now
  counts-on done p before mid now counts (inl h) = record {
    open_ones = counts.open_ones;
    are = open-clash done counts.open_ones p counts.are h.0;
    rose = h.1 ∙ counts.rose;
  }
  counts-on done p before mid now counts (inr h) = record {
    open_ones = counts.open_ones ++ p ∷ [];
    are = open-more done counts.open_ones p counts.are h.0;
    rose = rose-more (length counts.open_ones) before mid now counts.rose h.1
        ∙ ap (λ (n : ℕ). min (before + n) (2 ^ 64 - 1)) (sym (length-append counts.open_ones (p ∷ [])));
  }
