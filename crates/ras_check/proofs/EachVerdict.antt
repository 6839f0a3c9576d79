-- An evidence has a verdict: it is good, or it has a first fault, or it is not judged yet.
use Rattle.std.proofs.Common.{◌≡◌, ℕ, zero, suc, ◌+◌, ◌<◌, ◌≤◌, true, List, [], ◌∷◌, ◌++◌, length, get_or, refl, sym, ◌∙◌, ap, subst, arith, ◌⊎◌, inl, inr}
use Rattle.std.specs.Prelude.{All, Option, Some, None, slice_get}
use Rattle.std.specs.List.{AllZip}
use Rattle.std.proofs.lemmas.Bool.{cases_eq, cases_lt}
use Rattle.std.proofs.lemmas.Option.{same_Some}
use Rattle.std.proofs.lemmas.List.{length-append, length-map}
use Rattle.std.proofs.lemmas.List.Elements.{All-cons, All-head, All-tail}
use Rattle.ras_logic.specs.declared.ids.RelId.{RelId}
use Rattle.ras_logic.specs.declared.ids.SortId.{SortId}
use Rattle.ras_logic.specs.declared.term.Base.TheVariants.{Param}
use Rattle.ras_logic.specs.declared.literal.Literal.{Literal}
use Rattle.ras_logic.specs.declared.literal.Literal.TheVariants.{Equal}
use Rattle.ras_logic.specs.declared.problem.Problem.{Problem}
use Rattle.ras_logic.specs.declared.raw_db.RawDb.{RawDb}
use Rattle.ras_logic.specs.declared.tree.Node.{Node}
use Rattle.ras_logic.specs.declared.tree.Node.TheVariants.{Leaf, Split}
use Rattle.ras_logic.specs.declared.tree.Tree.{Tree}
use Rattle.ras_logic.specs.Schemas.{SchemaParts, IsSort, IsSchema}
use Rattle.ras_logic.specs.Shapes.{ShapeParts, IsRelation}
use Rattle.ras_logic.specs.Terms.{base_term, sort_of}
use Rattle.ras_logic.specs.Formulas.{LiteralFits, Fits, IsCube, negated, replace}
use Rattle.ras_logic.specs.Clashes.{FactsClash}
use Rattle.ras_logic.specs.Trees.{AreTrees, IsWhole}
use Rattle.ras_logic.specs.Refutations.{AreRowsOf, chosen_row, children_facts, CloseAll}
use Rattle.ras_system.specs.Systems.{SystemParts, IsSystem}
use Rattle.ras_system.specs.Obligations.{Obligation, obligations}
use Rattle.ras_system.specs.Evidence.{ClosesObligation, IsGoodSafe}
use Rattle.ras_steps.specs.declared.run.Run.{Run}
use Rattle.ras_refute.specs.declared.tree_fault.TreeFault.{TreeFault}
use Rattle.ras_refute.specs.declared.tree_fault.TreeKind.TheVariants as kind
use Rattle.ras_refute.specs.Faults.{IsFirstFault, IsTreeFault}
use Rattle.ras_evidence.specs.declared.value.Entry.{Entry}
use Rattle.ras_evidence.specs.declared.value.Evidence.{Evidence}
use Rattle.ras_evidence.specs.declared.value.Evidence.TheVariants.{Safe, Unsafe, Unknown}
use Rattle.ras_violation.specs.declared.violation_fault.ViolationFault.{ViolationFault}
use Rattle.ras_violation.specs.Violations.{IsGoodViolation}
use Rattle.ras_violation.specs.ViolationFaults.{IsViolationFault}
use Rattle.ras_violation.proofs.Decisions.{Decided, by_both, decided_both, decided_below, decided_all}
use Rattle.ras_safety.specs.declared.safe_fault.SafeFault.{SafeFault}
use Rattle.ras_safety.specs.declared.safe_fault.SafeFault.TheVariants as fault
use Rattle.ras_spent.specs.Entries.{IsGoodSpent}
use Rattle.ras_spent.specs.EntryFaults.{HasSpentFault}
use Rattle.ras_check.specs.declared.verdict.Invalid.TheVariants as invalid
use Rattle.ras_check.specs.declared.verdict.Verdict.TheVariants as verdict
use Rattle.ras_safety.specs.Faults.{IsFirstMisfit, IsFirstOpen, IsSafeFault}
use Rattle.ras_check.specs.Judging.{IsComplete, HasCubes, HasAnswer, HasVerdict}
use Rattle.ras_check.proofs.Deciding.{decided_clash}

decided_lt : (a b : ℕ) → Decided (a < b)
decided_lt a b = go (cases_lt a b)
  where
    go : (a < b) ⊎ (b ≤ a) → Decided (a < b)
    go (inl lt) = inl lt
    go (inr le) = inr (λ lt. omega (arith, lt, le))

-- the rows of a formula
same_relation : (r s : RelId) → Decided (r ≡ s)
same_relation r s = by_both (λ e. ap (λ (n : ℕ). let q : RelId = record { n = n } in q) e) (λ e. ap (λ (q : RelId). q.n) e) (cases_eq r.n s.n)

module _ (premise : List RelId) where
  abbrev IsRowOf : RelId → ℕ → Type 0
  IsRowOf r k = slice_get premise k ≡ Some r

  decided_row : (r : RelId) (k : ℕ) → Decided (IsRowOf r k)
  decided_row r k = go (slice_get premise k) refl
    where
      go : (o : Option RelId) → slice_get premise k ≡ o → Decided (IsRowOf r k)
      go None none = inr (λ h. absurd (let both = sym none ∙ h in cc))
      go (Some q) known = by_both (λ e. known ∙ ap Some e) (λ h. same_Some q r (sym known ∙ h)) (same_relation q r)

  decided_rows : (formula : List RelId) (chosen : List ℕ) → Decided (AllZip IsRowOf formula chosen)
  decided_rows [] [] = inl tt
  decided_rows [] (k ∷ ks) = inr (λ h. h)
  decided_rows (r ∷ rs) [] = inr (λ h. h)
  decided_rows (r ∷ rs) (k ∷ ks) = decided_both (decided_row r k) (decided_rows rs ks)

  abbrev IsApart : List ℕ → ℕ → ℕ → Type 0
  IsApart chosen i j = get_or chosen i 0 ≡ get_or chosen j 0 → i ≡ j

  decided_apart : (chosen : List ℕ) (i j : ℕ) → Decided (IsApart chosen i j)
  decided_apart chosen i j = go (cases_eq (get_or chosen i 0) (get_or chosen j 0)) (cases_eq i j)
    where
      go : Decided (get_or chosen i 0 ≡ get_or chosen j 0) → Decided (i ≡ j) → Decided (IsApart chosen i j)
      go same (inl e) = inl (λ _. e)
      go (inl same) (inr none) = inr (λ h. none (h same))
      go (inr differ) (inr none) = inl (λ same. absurd (differ same))

  decided_rows_of : (formula : List RelId) (chosen : List ℕ) → Decided (AreRowsOf premise formula chosen)
  decided_rows_of formula chosen =
      by_both (λ h. record { relations = h.0; different = λ i j lt below. h.1 i lt j below }) (λ h. (h.relations, λ i lt j below. h.different i j lt below))
      (decided_both (decided_rows formula chosen) (decided_below (λ (i : ℕ). (j : ℕ) → j < length chosen → IsApart chosen i j) (λ i. decided_below (IsApart chosen i) (decided_apart chosen i) (length chosen)) (length chosen)))

-- formulas that fit
module _ (shape : ShapeParts) where
  decided_literal : (rows : List RelId) (params : List SortId) (l : Literal) → Decided (LiteralFits shape rows params l)
  decided_literal rows params (Equal left right same) = go (sort_of shape rows params left) refl (sort_of shape rows params right) refl
    where
      go : (a : Option SortId) → sort_of shape rows params left ≡ a → (b : Option SortId) → sort_of shape rows params right ≡ b → Decided (LiteralFits shape rows params (Equal left right same))
      go None none b e = inr (λ h. absurd (let both = sym none ∙ h.1 in cc))
      go (Some s) known None none = inr (λ h. absurd (let both = sym none ∙ h.2 in cc))
      go (Some s) known (Some t) other =
          by_both (λ e. (s, known, other ∙ ap (λ (n : ℕ). let q : SortId = record { n = n } in Some q) (sym e))) (λ h. ap (λ (q : SortId). q.n) (same_Some s h.0 (sym known ∙ h.1) ∙ sym (same_Some t h.0 (sym other ∙ h.2)))) (cases_eq s.n t.n)

  decided_fits : (p : Problem) → Decided (Fits shape p)
  decided_fits p =
      by_both (λ h. record { rows = h.0; params = h.1.0; literals = h.1.1 }) (λ h. (h.rows, (h.params, h.literals)))
      (decided_both (decided_all (IsRelation shape) (λ r. decided_lt r.n (length shape.relations)) p.rows (record { n = 0 }))
      (decided_both (decided_all (IsSort shape.schema.sorts) (λ s. decided_lt s.n shape.schema.sorts) p.params (record { n = 0 }))
      (decided_all (LiteralFits shape p.rows p.params) (decided_literal p.rows p.params) p.literals (Equal (base_term (Param 0)) (base_term (Param 0)) true))))

module _ (schema : SchemaParts) (is : IsSchema schema) (formulas : List Problem) (rows : List RelId) where
  -- the trees close, or have a first fault
  abbrev Trees : ℕ → List (List Literal) → List Node → Type 0
  Trees n pending nodes = CloseAll schema formulas rows pending nodes ⊎ ((f : TreeFault) × IsFirstFault schema formulas rows n pending nodes f)

  module _ (n : ℕ) (facts : List Literal) (pending : List (List Literal)) (nodes : List Node) where
    leaf : Trees (n + 1) pending nodes → Decided (FactsClash schema facts) → Trees n (facts ∷ pending) (Leaf ∷ nodes)
    leaf later (inr none) = inr (record { node = n; kind = kind.NoClash }, inl (refl, none))
    leaf (inl close) (inl clash) = inl (clash, close)
    leaf (inr f) (inl clash) = inr (f.0, inr ([], (clash, refl), f.1))

    module _ (number : ℕ) (chosen : List ℕ) (children : ℕ) where
      abbrev Here : Type 0
      Here = Trees n (facts ∷ pending) (Split number chosen children ∷ nodes)

      module _ (f : Problem) (known : slice_get formulas number ≡ Some f) where
        abbrev More : List (List Literal)
        More = children_facts facts chosen f.literals

        passed : AreRowsOf rows f.rows chosen → children ≡ length f.literals → Trees (n + 1) (More ++ pending) nodes → Here
        passed rows_of one_each (inl close) = inl (f, known, rows_of, one_each, close)
        passed rows_of one_each (inr g) = inr (g.0, inr (More, (f, record { known = known; rows_of = rows_of; one_each = one_each }, refl), g.1))

        judged : (children ≡ length f.literals → Trees (n + 1) (More ++ pending) nodes) → Decided (AreRowsOf rows f.rows chosen) → Decided (children ≡ length f.literals) → Here
        judged later (inr none) count = inr (record { node = n; kind = kind.Rows }, inl (refl, (f, known, none)))
        judged later (inl rows_of) (inr none) = inr (record { node = n; kind = kind.Children }, inl (refl, (f, known, rows_of, none)))
        judged later (inl rows_of) (inl one_each) = passed rows_of one_each (later one_each)

      split : ((f : Problem) → children ≡ length f.literals → Trees (n + 1) (children_facts facts chosen f.literals ++ pending) nodes) → (o : Option Problem) → slice_get formulas number ≡ o → Here
      split later None unknown = inr (record { node = n; kind = kind.NoFormula }, inl (refl, unknown))
      split later (Some f) known = judged f known (later f) (decided_rows_of rows f.rows chosen) (cases_eq children (length f.literals))

  -- the children are as many as the lists of facts that they get
  as_many : (facts : List Literal) (chosen : List ℕ) (literals : List Literal) (pending : List (List Literal)) (children : ℕ) → children ≡ length literals
      → children + length pending ≡ length (children_facts facts chosen literals ++ pending)
  as_many facts chosen literals pending children e =
      ap (λ (k : ℕ). k + length pending) (e ∙ sym (length-map literals (λ (l : Literal). negated (replace (chosen_row chosen) l) ∷ facts))) ∙ sym (length-append (children_facts facts chosen literals) pending)

  no_more : (k : ℕ) → 0 + k ≡ k
  no_more k = omega arith

  trees : (nodes : List Node) (n : ℕ) (pending : List (List Literal)) → AreTrees (length pending) nodes → Trees n pending nodes
  trees [] n [] whole = inl tt
  trees [] n (facts ∷ pending) whole = absurd whole
  trees (node ∷ nodes) n [] whole = absurd whole
  trees (Leaf ∷ nodes) n (facts ∷ pending) whole =
      leaf n facts pending nodes (trees nodes (n + 1) pending (subst (λ (k : ℕ). AreTrees k nodes) (no_more (length pending)) whole)) (decided_clash schema facts is)
  trees (Split number chosen children ∷ nodes) n (facts ∷ pending) whole =
      split n facts pending nodes number chosen children
      (λ f e. trees nodes (n + 1) (children_facts facts chosen f.literals ++ pending) (subst (λ (k : ℕ). AreTrees k nodes) (as_many facts chosen f.literals pending children e) whole))
      (slice_get formulas number) refl

module _ (system : SystemParts) where
  abbrev Fitting : List Problem → Type 0
  Fitting formulas = All (Fits system.shape) formulas ⊎ ((k : ℕ) × IsFirstMisfit system formulas k)

  fitting : (formulas : List Problem) → Fitting formulas
  fitting [] = inl (λ k d lt. absurd (omega (arith, lt)))
  fitting (f ∷ fs) = go (decided_fits system.shape f) (fitting fs)
    where
      go : Decided (Fits system.shape f) → Fitting fs → Fitting (f ∷ fs)
      go (inr none) rest = inr (zero, record { formula = f; known = refl; before = λ k d lt. absurd (omega (arith, lt)); here = none })
      go (inl fits) (inl all) = inl (All-cons (Fits system.shape) f fs fits all)
      go (inl fits) (inr m) = inr (suc m.0, record { formula = m.1.formula; known = m.1.known; before = All-cons (Fits system.shape) f _ fits m.1.before; here = m.1.here })

  module _ (is : IsSchema system.shape.schema) where
    abbrev Closing : ℕ → List Obligation → List Tree → Type 0
    Closing n os ts = AllZip (ClosesObligation system) os ts ⊎ ((at : ℕ) × ((f : TreeFault) × IsFirstOpen system n os ts at f))

    closing : (os : List Obligation) (ts : List Tree) (n : ℕ) → length ts ≡ length os → All IsWhole ts → Closing n os ts
    closing [] [] n e whole = inl tt
    closing [] (t ∷ ts) n e whole = absurd (omega (arith, e))
    closing (o ∷ os) [] n e whole = absurd (omega (arith, e))
    closing (o ∷ os) (t ∷ ts) n e whole =
        go (trees system.shape.schema is o.formulas o.premise.rows t.nodes 0 (o.premise.literals ∷ []) (All-head IsWhole t ts whole)) (closing os ts (n + 1) (omega (arith, e)) (All-tail IsWhole t ts whole))
      where
        go : ClosesObligation system o t ⊎ ((f : TreeFault) × IsTreeFault system.shape.schema o.premise o.formulas t.nodes f) → Closing (n + 1) os ts → Closing n (o ∷ os) (t ∷ ts)
        go (inr f) rest = inr (n, (f.0, inl (refl, f.1)))
        go (inl close) (inl all) = inl (close, all)
        go (inl close) (inr f) = inr (f.0, (f.1.0, inr (close, f.1.1)))

    module _ (formulas : List Problem) (ts : List Tree) (cubes : All IsCube formulas) (whole : All IsWhole ts) where
      abbrev Judged : Type 0
      Judged = IsGoodSafe system formulas ts ⊎ ((f : SafeFault) × IsSafeFault system formulas ts f)

      safe : Judged
      safe = fitted (fitting formulas)
        where
          closed : All (Fits system.shape) formulas → length ts ≡ length (obligations system formulas) → Closing 0 (obligations system formulas) ts → Judged
          closed fit e (inl all) = inl (record { fit = fit; cubes = cubes; closed = all })
          closed fit e (inr f) = inr (fault.Obligation f.0 f.1.0, (fit, e, f.1.1))

          counted : All (Fits system.shape) formulas → Decided (length ts ≡ length (obligations system formulas)) → Judged
          counted fit (inr none) = inr (fault.Count, (fit, none))
          counted fit (inl e) = closed fit e (closing (obligations system formulas) ts 0 e whole)

          fitted : Fitting formulas → Judged
          fitted (inr m) = inr (fault.Formula m.0, m.1)
          fitted (inl fit) = counted fit (cases_eq (length ts) (length (obligations system formulas)))

module _ (violation : (system : SystemParts) (d : RawDb) (run : Run) → IsGoodViolation system d run ⊎ ((f : ViolationFault) × IsViolationFault system d run f))
    (spent : (system : SystemParts) (entries : List Entry) (spill : Entry) → ¬ (¬ (IsGoodSpent system entries spill ⊎ HasSpentFault system entries spill)))
    (system : SystemParts) (is : IsSystem system) where
  abbrev Has : Evidence → Type 0
  Has e = HasAnswer system e

  pub each_verdict : (e : Evidence) → IsComplete e → HasCubes e → HasVerdict system e
  each_verdict (Safe formulas ts) whole cubes = go (safe system is.shape.schema formulas ts cubes whole)
    where
      go : IsGoodSafe system formulas ts ⊎ ((f : SafeFault) × IsSafeFault system formulas ts f) → Has (Safe formulas ts)
      go (inl good) = (verdict.Valid, good)
      go (inr f) = (verdict.Invalid (invalid.Safe f.0), f.1)
  each_verdict (Unsafe d run) whole cubes = go (violation system d run)
    where
      go : IsGoodViolation system d run ⊎ ((f : ViolationFault) × IsViolationFault system d run f) → Has (Unsafe d run)
      go (inl good) = (verdict.Valid, good)
      go (inr f) = (verdict.Invalid (invalid.Violation f.0), f.1)
  each_verdict (Unknown entries spill) complete cubes = λ none. spent system entries spill (neither none)
    where
      neither : ¬ Has (Unknown entries spill) → ¬ (IsGoodSpent system entries spill ⊎ HasSpentFault system entries spill)
      neither none (inl good) = none (verdict.Valid, (complete, good))
      neither none (inr f) = none (verdict.Invalid (invalid.Spent f.0), f.1)
