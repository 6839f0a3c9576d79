-- What the closure of a premise tells of literals wherever the premise holds.
use Rattle.std.proofs.Common.{◌≡◌, ◌≢◌, ℕ, ◌+◌, ◌<◌, Bool, true, false, length, nat_eq, refl, sym, ◌∙◌, ap, subst, arith, ◌⊎◌, inl, inr, ⊎_elim}
use Rattle.std.specs.Prelude.{slice_get, Some, Contains, IsTrue, not}
use Rattle.std.proofs.lemmas.Bool.{eqb-true, eq-eqb, not-true}
use Rattle.std.proofs.lemmas.List.Elements.{All-contains}
use Rattle.ras_logic.specs.declared.ids.SortId.{SortId}
use Rattle.ras_logic.specs.declared.ids.ConstId.{ConstId}
use Rattle.ras_logic.specs.declared.raw_db.RawDb.{RawDb}
use Rattle.ras_logic.specs.declared.values.Values.{Values}
use Rattle.ras_logic.specs.declared.term.Term.{Term}
use Rattle.ras_logic.specs.declared.literal.Literal.{Literal}
use Rattle.ras_logic.specs.declared.literal.Literal.TheVariants.{Equal}
use Rattle.ras_logic.specs.declared.problem.Problem.{Problem}
use Rattle.ras_logic.specs.Shapes.{ShapeParts}
use Rattle.ras_logic.specs.Databases.{IsDatabase, constant_of}
use Rattle.ras_logic.specs.Terms.{sort_of, constant_term, undef_term}
use Rattle.ras_logic.specs.Formulas.{LiteralFits}
use Rattle.ras_logic.specs.Literals.{same_of}
use Rattle.ras_logic.specs.Truth.{AreValues, Satisfies, value, holds}
use Rattle.ras_logic.proofs.Soundness.{together-value}
use Rattle.ras_logic.proofs.SameSorts.{together-sorted}
use Rattle.ras_logic.proofs.TermSorts.{constant-sort, undef-sort}
use Rattle.ras_closure.specs.Numbered.{IsTable, IsAt, IsSortOf, rigid_count}
use Rattle.ras_closure.specs.Closures.{ClosureParts, IsClosure, IsFactOf, AreTogetherIn}
use Rattle.ras_closure.specs.Closings.{IsClosureOf}
use Rattle.ras_closure.proofs.Merges.{rigid_cases}
use Rattle.ras_known.specs.declared.known.Sides.{Sides}
use Rattle.ras_known.specs.Knowledge.{IsInClass, AreClassesOf, AreApart, AreKeptApart, IsTruth}

-- a literal whose sides have one value says what is true exactly where it says same
equal-holds : (d : RawDb) (v : Values) (s t : Term) (same : Bool) → value d v s ≡ value d v t → holds d v (Equal s t same) ≡ same
equal-holds d v s t true e = eq-eqb (value d v s) (value d v t) e
equal-holds d v s t false e = ap not (eq-eqb (value d v s) (value d v t) e)

differ-eqb : (x y : ℕ) → x ≢ y → nat_eq x y ≡ false
differ-eqb x y differ = go (nat_eq x y) refl
  where
    go : (b : Bool) → nat_eq x y ≡ b → nat_eq x y ≡ false
    go true e = absurd (differ (eqb-true x y e))
    go false e = e

other-holds : (d : RawDb) (v : Values) (s t : Term) (same : Bool) → value d v s ≢ value d v t → holds d v (Equal s t same) ≡ not same
other-holds d v s t true differ = differ-eqb (value d v s) (value d v t) differ
other-holds d v s t false differ = ap not (differ-eqb (value d v s) (value d v t) differ)

module _ (shape : ShapeParts) (premise : Problem) (c : ClosureParts) (of : IsClosureOf shape premise c) (table : IsTable c.table) (closure : IsClosure c) where
  pub own-sort : (s : Term) (u : SortId) → sort_of shape premise.rows premise.params s ≡ Some u → IsSortOf c.table s u
  own-sort s u h =
      subst (λ (p : Problem). sort_of c.table.shape p.rows p.params s ≡ Some u) (sym of.problem_is)
      (subst (λ (w : ShapeParts). sort_of w premise.rows premise.params s ≡ Some u) (sym of.shape_is) h)

  module _ (d : RawDb) (v : Values) (db : IsDatabase shape.schema d) (sat : Satisfies shape d v premise) where
    own-db : IsDatabase c.table.shape.schema d
    own-db = subst (λ (s : ShapeParts). IsDatabase s.schema d) (sym of.shape_is) db

    own-values : AreValues c.table.shape d c.table.problem.rows c.table.problem.params v
    own-values =
        subst (λ (p : Problem). AreValues c.table.shape d p.rows p.params v) (sym of.problem_is)
        (subst (λ (s : ShapeParts). AreValues s d premise.rows premise.params v) (sym of.shape_is) sat.values)

    pub facts-hold : (l : Literal) → IsFactOf c l → IsTrue (holds d v l)
    facts-hold l h = All-contains (λ (q : Literal). IsTrue (holds d v q)) premise.literals l sat.literals ((of.asserted l).0 h)

    pub same-value : (s t : Term) → AreTogetherIn c s t → value d v s ≡ value d v t
    same-value s t r =
        together-value c.table.shape c.table.problem.rows c.table.problem.params table.shape.schema c.table.problem.literals table.fits.literals
        (IsFactOf c) closure.facts_fit d own-db v own-values facts-hold r

    class-together : (s t : Term) (i : ℕ) → IsInClass c s i → IsInClass c t i → AreTogetherIn c s t
    class-together s t i a b = closure.partial.sound a.number b.number s t a.known b.known (a.of_class ∙ sym b.of_class)

    -- terms of one class have one value
    pub class-value : (s t : Term) (i : ℕ) → IsInClass c s i → IsInClass c t i → value d v s ≡ value d v t
    class-value s t i a b = same-value s t (class-together s t i a b)

    sort-along : (s t : Term) (u : SortId) → AreTogetherIn c s t → IsSortOf c.table s u → IsSortOf c.table t u
    sort-along s t u r h =
        let both = together-sorted c.table.shape c.table.problem.rows c.table.problem.params table.shape.schema c.table.problem.literals table.fits.literals
        (IsFactOf c) closure.facts_fit r in
        both.right ∙ sym both.left ∙ h

    -- a term in the class of its sort's undef
    record IsUndefined (s : Term) (u : SortId) (i : ℕ) : Type 0 where
      number : i ≡ u.n
      zero_value : value d v s ≡ 0

    -- a term in the class of a constant of its sort
    record IsConstant (s : Term) (u : SortId) (i : ℕ) : Type 0 where
      constant : ℕ
      number : i ≡ c.table.shape.schema.sorts + constant
      sorted : slice_get c.table.shape.schema.constants constant ≡ Some u
      value_is : value d v s ≡ constant_of d constant

    rigid-term : (s : Term) (u : SortId) (i : ℕ) → i < rigid_count c.table → IsInClass c s i → IsSortOf c.table s u → IsUndefined s u i ⊎ IsConstant s u i
    rigid-term s u i lt inside sorted =
        let own = (closure.verdict.unbroken of.no_clash).rigid i lt in
        ⊎_elim
        (λ (h : (i < c.table.shape.schema.sorts) × IsAt c.table.terms i (undef_term (record { n = i }))).
        let undef : Term = undef_term (record { n = i }) in
        let r = class-together s undef i inside (record { number = i; known = h.1; of_class = own }) in
        inl (record { number = ap (λ (q : SortId). q.n) (undef-sort c.table.shape c.table.problem.rows c.table.problem.params (record { n = i }) u (sort-along s undef u r sorted)); zero_value = same-value s undef r }))
        (λ (h : (k : ConstId) × (k.n < length c.table.shape.schema.constants) × (i ≡ c.table.shape.schema.sorts + k.n) × IsAt c.table.terms i (constant_term k)).
        let r = class-together s (constant_term h.0) i inside (record { number = i; known = h.3; of_class = own }) in
        inr (record {
          constant = h.0.n;
          number = h.2;
          sorted = constant-sort c.table.shape c.table.problem.rows c.table.problem.params h.0 u (sort-along s (constant_term h.0) u r sorted);
          value_is = same-value s (constant_term h.0) r;
        }))
        (rigid_cases c.table table i lt)

    apart-values : (s t : Term) (u : SortId) (i j : ℕ) → i ≢ j → IsUndefined s u i ⊎ IsConstant s u i → IsUndefined t u j ⊎ IsConstant t u j → value d v s ≢ value d v t
    apart-values s t u i j other (inl a) (inl b) e = other (a.number ∙ sym b.number)
    apart-values s t u i j other (inl a) (inr b) e =
        let above = (own-db.each_constant b.constant u b.sorted).0 in absurd (omega (arith, above, a.zero_value, e, b.value_is))
    apart-values s t u i j other (inr a) (inl b) e =
        let above = (own-db.each_constant a.constant u a.sorted).0 in absurd (omega (arith, above, b.zero_value, e, a.value_is))
    apart-values s t u i j other (inr a) (inr b) e =
        let same : a.constant ≡ b.constant = own-db.apart a.constant b.constant u a.sorted b.sorted (sym a.value_is ∙ e ∙ b.value_is) in
        other (a.number ∙ ap (λ (k : ℕ). c.table.shape.schema.sorts + k) same ∙ sym b.number)

    pub rigid-values : (i j : ℕ) → i < rigid_count c.table → j < rigid_count c.table → i ≢ j → (s t : Term) (u : SortId) → sort_of shape premise.rows premise.params s ≡ Some u
        → sort_of shape premise.rows premise.params t ≡ Some u → IsInClass c s i → IsInClass c t j → value d v s ≢ value d v t
    rigid-values i j lt_i lt_j other s t u sort_s sort_t a b =
        apart-values s t u i j other (rigid-term s u i lt_i a (own-sort s u sort_s)) (rigid-term t u j lt_j b (own-sort t u sort_t))

  -- different ones of undef and the constants are kept apart
  pub rigid-apart : (sides : Sides) → sides.left < rigid_count c.table → sides.right < rigid_count c.table → sides.left ≢ sides.right → AreKeptApart shape premise c sides
  rigid-apart sides lt_left lt_right other s t u sort_s sort_t a b d v db sat =
      rigid-values d v db sat sides.left sides.right lt_left lt_right other s t u sort_s sort_t a b

  pub listed-apart : (sides : Sides) → AreApart shape premise c sides → AreKeptApart shape premise c sides
  listed-apart sides apart s t u sort_s sort_t a b = apart s t a b

  pub turned-apart : (i j : ℕ) → AreApart shape premise c (record { left = j; right = i }) → AreKeptApart shape premise c (record { left = i; right = j })
  turned-apart i j apart s t u sort_s sort_t a b d v db sat e = apart t s b a d v db sat (sym e)

  -- a literal of the premise that says that its sides are not the same keeps their classes apart
  pub stated-apart : (l : Literal) → Contains premise.literals l → same_of l ≡ false → (sides : Sides) → AreClassesOf c l sides → AreApart shape premise c sides
  stated-apart (Equal p q true) inside says sides of_sides s t a b d v db sat e = absurd (cc)
  stated-apart (Equal p q false) inside says sides of_sides s t a b d v db sat e =
      let h : IsTrue (holds d v (Equal p q false)) = All-contains (λ (m : Literal). IsTrue (holds d v m)) premise.literals (Equal p q false) sat.literals inside in
      let same : value d v p ≡ value d v q =
      class-value d v db sat p s sides.left of_sides.left a ∙ e ∙ class-value d v db sat t q sides.right b of_sides.right in
      let equal : nat_eq (value d v p) (value d v q) ≡ true = eq-eqb (value d v p) (value d v q) same in
      absurd (cc (not-true (nat_eq (value d v p) (value d v q)) h))

  -- the truth of a literal whose sides are in one class, and of one whose sides are kept apart
  pub same-truth : (l : Literal) (sides : Sides) → AreClassesOf c l sides → sides.left ≡ sides.right → IsTruth shape premise l (same_of l)
  same-truth (Equal s t same) sides of_sides e d v db sat =
      equal-holds d v s t same (class-value d v db sat s t sides.left of_sides.left (subst (IsInClass c t) (sym e) of_sides.right))

  pub apart-truth : (l : Literal) → LiteralFits shape premise.rows premise.params l → (sides : Sides) → AreClassesOf c l sides → AreKeptApart shape premise c sides → IsTruth shape premise l (not (same_of l))
  apart-truth (Equal s t same) fits sides of_sides apart d v db sat =
      other-holds d v s t same (apart s t fits.0 fits.1 fits.2 of_sides.left of_sides.right d v db sat)
