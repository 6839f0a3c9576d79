-- Where the cube of a case holds, a larger database has parameters that satisfy the problem.
use Rattle.std.proofs.Common.{◌≡◌, ◌≢◌, ℕ, zero, suc, ◌+◌, ◌<◌, ◌≤◌, Bool, true, false, List, [], ◌∷◌, length, get_or, nat_eq, refl, sym, ◌∙◌, ap, subst, arith, ◌⊎◌, inl, inr, ⊎_elim}
use Rattle.std.specs.Prelude.{slice_get, Option, Some, None, All, IsTrue, not, unwrap_or, option_and_then}
use Rattle.std.proofs.lemmas.Option.{slice_get_within}
use Rattle.std.proofs.lemmas.Bool.{eq-eqb}
use Rattle.ras_logic.specs.declared.ids.SortId.{SortId}
use Rattle.ras_logic.specs.declared.ids.FunId.{FunId}
use Rattle.ras_logic.specs.declared.ids.RelId.{RelId}
use Rattle.ras_logic.specs.declared.function.FunDecl.{FunDecl}
use Rattle.ras_logic.specs.declared.raw_db.RawDb.{RawDb}
use Rattle.ras_logic.specs.declared.values.Values.{Values}
use Rattle.ras_logic.specs.declared.problem.Problem.{Problem}
use Rattle.ras_logic.specs.declared.term.Base.TheVariants.{Param}
use Rattle.ras_logic.specs.declared.term.Term.{Term}
use Rattle.ras_logic.specs.declared.literal.Literal.{Literal}
use Rattle.ras_logic.specs.declared.literal.Literal.TheVariants.{Equal}
use Rattle.ras_logic.specs.Databases.{IsDatabase, image, size_of}
use Rattle.ras_logic.specs.Terms.{base_term, image_term, sort_of}
use Rattle.ras_logic.specs.Truth.{AreValues, value, holds, AllHold, Satisfies}
use Rattle.ras_closure.specs.Numbered.{IsAt, IsTable, IsSortOf, TableParts}
use Rattle.ras_closure.specs.Classes.{class}
use Rattle.ras_closure.specs.Models.{IsImage}
use Rattle.ras_closure.specs.Values.{AreElementsOf}
use Rattle.ras_closure.specs.Closures.{ClosureParts, IsClosure, IsFactOf}
use Rattle.ras_logic.proofs.Elements.{from_known}
use Rattle.ras_closure.proofs.Sides.{literal-known}
use Rattle.ras_closure.proofs.Existence.{choose, elements-of, image-of}
use Rattle.ras_closure.proofs.Cases.{some_same, none_some, below_or}
use Rattle.ras_split.specs.Among.{IsAmong}
use Rattle.ras_cover.specs.Covers.{with_params, HasExtension, IsExtension}
use Rattle.ras_split.specs.Standing.{standing, AreAllStanding}
use Rattle.ras_cubes.specs.Dues.{IsDue, IsTrivial, IsCubeOf}
use Rattle.ras_cover.specs.Extensions.{AreNumbersFor, AreNumbersOver, IsTableOver, IsDbOver}
use Rattle.ras_split.proofs.Listed.{all-among}
use Rattle.ras_cover.proofs.Implied.{differ-true}
use Rattle.ras_cover.proofs.Numbering.{numbers-over, numbers-same, numbers-differ}
use Rattle.ras_cover.proofs.LargerDatabase.{extension-database, extension-extends, extension-values, extension-value}

-- there is such a larger database
module _ (t : TableParts) (table : IsTable t) (d : RawDb) (number : ℕ → ℕ) (size : SortId → ℕ) where
  abbrev IsEntry : FunId → FunDecl → List ℕ → ℕ → ℕ → Type 0
  IsEntry f decl smaller k y = (k < size_of d decl.source → y ≡ get_or smaller k 0) × (size_of d decl.source ≤ k → IsImage t.terms number size f decl (k + 1) y)

  entry : (f : FunId) (decl : FunDecl) (smaller : List ℕ) (k : ℕ) → (y : ℕ) × IsEntry f decl smaller k y
  entry f decl smaller k =
      ⊎_elim (λ (lt : k < size_of d decl.source). (get_or smaller k 0, (λ h. refl, λ le. absurd (omega (arith, le, lt)))))
      (λ (beyond : size_of d decl.source ≤ k). let y = image-of t table number size f decl (k + 1) in (y.0, (λ lt. absurd (omega (arith, lt, beyond)), λ h. y.1))) (below_or k (size_of d decl.source))

  table-over : (f : FunId) (decl : FunDecl) (smaller : List ℕ) → size_of d decl.source ≤ size decl.source → (ys : List ℕ) × IsTableOver t d number size f decl smaller ys
  table-over f decl smaller room =
      let c = choose (IsEntry f decl smaller) 0 (size decl.source) (λ k lt. entry f decl smaller k) in
      (c.0, record { long = c.1; old = λ k lt. (c.2 k (omega (arith, lt, room))).0 lt; images = λ k beyond lt. (c.2 k (rw (← c.1) lt)).1 beyond })

  abbrev IsTableAt : ℕ → List ℕ → Type 0
  IsTableAt k ys = (decl : FunDecl) → slice_get t.shape.schema.functions k ≡ Some decl → IsTableOver t d number size (record { n = k }) decl (get_or d.tables k []) ys

  table-at : ((s : SortId) → size_of d s ≤ size s) → (k : ℕ) (o : Option FunDecl) → slice_get t.shape.schema.functions k ≡ o → (ys : List ℕ) × IsTableAt k ys
  table-at room k None e = ([], λ decl h. absurd (none_some (sym e ∙ h)))
  table-at room k (Some decl) e =
      let y = table-over (record { n = k }) decl (get_or d.tables k []) (room decl.source) in
      (y.0, λ other h. subst (λ (q : FunDecl). IsTableOver t d number size (record { n = k }) q (get_or d.tables k []) y.0) (some_same (sym e ∙ h)) y.1)

  pub a-larger : ((s : SortId) → size_of d s ≤ size s) → (e : RawDb) × IsDbOver t d number size e
  a-larger room =
      let sizes = choose (λ (k y : ℕ). y ≡ size (record { n = k })) 0 t.shape.schema.sorts (λ k lt. (size (record { n = k }), refl)) in
      let tables = choose {X = List ℕ} IsTableAt [] (length t.shape.schema.functions) (λ k lt. table-at room k (slice_get t.shape.schema.functions k) refl) in
      let e : RawDb = record { sizes = sizes.0; tables = tables.0; constants = d.constants } in (
        e,
        record {
          as_many_sizes = sizes.1;
          sizes = λ s lt. sizes.2 s.n lt;
          as_many_tables = tables.1;
          each_table = λ f decl known. tables.2 f.n (slice_get_within t.shape.schema.functions f.n decl known) decl known;
          constants = refl;
        },
      )

-- the sort of the term of that number
abbrev sort_at : TableParts → ℕ → SortId
sort_at t i = unwrap_or (option_and_then (sort_of t.shape t.problem.rows t.problem.params) (slice_get t.terms i)) (record { n = 0 })

abbrev value_or : RawDb → Values → ℕ → Option Term → ℕ
value_or d v n None = n
value_or d v n (Some r) = value d v r

-- the value of what stands for a term, or else an element that is the number of its class above the old ones
abbrev number_over : ClosureParts → List (Option Term) → RawDb → Values → ℕ → ℕ
number_over c terms d v i = value_or d v (size_of d (sort_at c.table i) + 1 + class c.classes i) (standing c terms i)

abbrev size_over : ClosureParts → RawDb → SortId → ℕ
size_over c d s = size_of d s + 1 + length c.table.terms

-- there are elements for the terms: one above the old ones for each number of a class
module _ (c : ClosureParts) (table : IsTable c.table) (closure : IsClosure c) (terms : List (Option Term)) (d : RawDb) (v : Values) where
  sort_at-is : (i : ℕ) (t : Term) (s : SortId) → IsAt c.table.terms i t → IsSortOf c.table t s → sort_at c.table i ≡ s
  sort_at-is i t s at sorted = rw (at, sorted)

  old-is : (i : ℕ) (r : Term) → standing c terms i ≡ Some r → number_over c terms d v i ≡ value d v r
  old-is i r e = ap (value_or d v (size_of d (sort_at c.table i) + 1 + class c.classes i)) e

  new-is : (i : ℕ) (t : Term) (s : SortId) → IsAt c.table.terms i t → IsSortOf c.table t s → standing c terms i ≡ None
      → number_over c terms d v i ≡ size_of d s + 1 + class c.classes i
  new-is i t s at sorted e =
      ap (value_or d v (size_of d (sort_at c.table i) + 1 + class c.classes i)) e ∙ ap (λ (q : SortId). size_of d q + 1 + class c.classes i) (sort_at-is i t s at sorted)

  own-numbers : AreNumbersFor c terms d v (number_over c terms d v) (size_over c d)
  own-numbers = record {
    old = λ i t r at e. old-is i r e;
    new = λ i t s at sorted e. let is = new-is i t s at sorted e in omega arith;
    within = λ i t s at sorted e.
        let is = new-is i t s at sorted e in
        let lt = slice_get_within c.table.terms i t at in let low = closure.partial.low i lt in omega arith;
    same = λ i j s t u at_i at_j left right none e.
        let none_j : standing c terms j ≡ None = ap (λ (x : ℕ). get_or terms x None) (sym e) ∙ none in
        new-is i s u at_i left none ∙ ap (λ (x : ℕ). size_of d u + 1 + x) e ∙ sym (new-is j t u at_j right none_j);
    differ = λ i j s t u at_i at_j left right none_i none_j e.
        let is_i = new-is i s u at_i left none_i in let is_j = new-is j t u at_j right none_j in omega arith;
    grows = λ s lt. omega arith;
    filled = λ f decl known total above. omega arith;
  }

module _ (c : ClosureParts) (table : IsTable c.table) (closure : IsClosure c) (none : c.clash ≡ None) (terms : List (Option Term)) (all : AreAllStanding c terms)
    (cube : Problem) (of : IsCubeOf c terms cube) (facts : (l : Literal) → IsAmong c.table.problem.literals l → IsFactOf c l)
    (d : RawDb) (v : Values) (db : IsDatabase c.table.shape.schema d) (satisfied : Satisfies c.table.shape d v cube) where
  cube-values : AreValues c.table.shape d c.table.problem.rows [] v
  cube-values =
      subst (λ (r : List RelId). AreValues c.table.shape d r [] v) of.rows (subst (λ (q : List SortId). AreValues c.table.shape d cube.rows q v) of.params satisfied.values)

  due-holds : (l : Literal) → IsDue c terms l → IsTrue (holds d v l)
  due-holds l due =
      ⊎_elim (λ (h : IsAmong cube.literals l). from_known (λ (m : Literal). IsTrue (holds d v m)) cube.literals satisfied.literals h.number l h.known)
      (λ (h : IsTrivial l). subst (λ (m : Literal). IsTrue (holds d v m)) (sym h.1) (eq-eqb (value d v h.0) (value d v h.0) refl)) (of.all l due)

  -- in any such larger database, with the elements of the parameters
  module _ (number : ℕ → ℕ) (size : SortId → ℕ) (are : AreNumbersFor c terms d v number size) where
    numbers : AreNumbersOver c.table d v number size
    numbers = numbers-over c table closure none terms all d db v cube-values due-holds number size are

    pub larger-is : (e : RawDb) → IsDbOver c.table d number size e → (params : List ℕ) → AreElementsOf c.table.terms number Param (length c.table.problem.params) params
        → IsExtension c.table.shape c.table.problem d v e (with_params v params)
    larger-is e over params elements = record {
      database = extension-database c.table table d db v cube-values number size numbers e over;
      extends = extension-extends c.table table d db v cube-values number size numbers e over;
      vars = refl;
      rows = refl;
      satisfied = record {
        values = extension-values c.table table d db v cube-values number size numbers e over params elements;
        literals = all-among (λ (l : Literal). IsTrue (holds e (with_params v params) l)) c.table.problem.literals (λ l h. literal l h.number h.known);
      };
    }
      where
        value-is : (i : ℕ) (s : Term) → IsAt c.table.terms i s → value e (with_params v params) s ≡ number i
        value-is i s at = extension-value c.table table d db v cube-values number size numbers e over params elements i s at

        literal : (l : Literal) (n : ℕ) → slice_get c.table.problem.literals n ≡ Some l → IsTrue (holds e (with_params v params) l)
        literal (Equal s t true) n at =
            let known = literal-known c.table.shape c.table.problem.rows c.table.problem.params c.table.problem.literals table.fits.literals n (Equal s t true) at in
            let i = table.terms.complete s known.0 in
            let j = table.terms.complete t known.2 in
            let alike = numbers-same c table closure none terms all d db v cube-values due-holds number size are s t i.0 j.0 (facts (Equal s t true) (record { number = n; known = at })) i.1 j.1 in
            eq-eqb (value e (with_params v params) s) (value e (with_params v params) t) (value-is i.0 s i.1 ∙ alike ∙ sym (value-is j.0 t j.1))
        literal (Equal s t false) n at =
            let known = literal-known c.table.shape c.table.problem.rows c.table.problem.params c.table.problem.literals table.fits.literals n (Equal s t false) at in
            let i = table.terms.complete s known.0 in
            let j = table.terms.complete t known.2 in
            let differ = numbers-differ c table closure none terms all d db v cube-values due-holds number size are n s t i.0 j.0 at (facts (Equal s t false) (record { number = n; known = at })) i.1 j.1 in
            differ-true (value e (with_params v params) s) (value e (with_params v params) t) (λ q. differ (sym (value-is i.0 s i.1) ∙ q ∙ value-is j.0 t j.1))

  pub case-extends : HasExtension c.table.shape c.table.problem d v
  case-extends =
      let number = number_over c terms d v in
      let size = size_over c d in
      let are = own-numbers c table closure terms d v in
      let e = a-larger c.table table d number size (λ s. omega arith) in
      let params = elements-of c.table.terms number Param (length c.table.problem.params) in
      let is = larger-is number size are e.0 e.1 params.0 params.1 in
      record { larger = e.0; params = params.0; database = is.database; extends = is.extends; satisfied = is.satisfied }
