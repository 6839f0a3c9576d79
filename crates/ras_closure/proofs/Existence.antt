-- Without a clash there are a database and values in which the facts hold.
use Rattle.std.proofs.Common.{◌≡◌, ◌≢◌, ℕ, zero, suc, ◌+◌, ◌<◌, List, [], ◌∷◌, length, get_or, cond, refl, sym, ◌∙◌, ap, subst, arith, ◌⊎◌, inl, inr, ⊎_elim}
use Rattle.std.specs.Prelude.{slice_get, Option, Some, None}
use Rattle.std.proofs.lemmas.Option.{slice_get_within}
use Rattle.ras_logic.specs.declared.ids.FunId.{FunId}
use Rattle.ras_logic.specs.declared.ids.VarId.{VarId}
use Rattle.ras_logic.specs.declared.ids.RelId.{RelId}
use Rattle.ras_logic.specs.declared.ids.SortId.{SortId}
use Rattle.ras_logic.specs.declared.ids.ConstId.{ConstId}
use Rattle.ras_logic.specs.declared.function.FunDecl.{FunDecl}
use Rattle.ras_logic.specs.declared.raw_db.RawDb.{RawDb}
use Rattle.ras_logic.specs.declared.values.Values.{Values}
use Rattle.ras_logic.specs.declared.term.Base.{Base}
use Rattle.ras_logic.specs.declared.term.Base.TheVariants.{Var, Cell, Constant, Undef, Param}
use Rattle.ras_logic.specs.declared.term.Term.{Term}
use Rattle.ras_closure.specs.declared.link.Link.{Link}
use Rattle.ras_closure.specs.declared.link.Link.TheVariants.{Base as BaseLink, Image}
use Rattle.ras_logic.specs.Terms.{base_term}
use Rattle.ras_closure.specs.Numbered.{TableParts, IsAt, IsTable}
use Rattle.ras_closure.specs.Closures.{ClosureParts, IsClosure, IsFactOf, HasNoModel}
use Rattle.ras_closure.specs.SmallModels.{IsModelOf}
use Rattle.ras_closure.specs.Models.{IsImage, IsTableOf}
use Rattle.ras_closure.specs.Values.{IsElementOf, AreElementsOf, variable}
use Rattle.ras_closure.specs.Images.{IsImageAt}
use Rattle.ras_closure.proofs.FoundImages.{image-found, image-none}
use Rattle.ras_closure.proofs.Numbers.{number_of, room_of, uniform-numbers}
use Rattle.ras_closure.proofs.Merges.{below}
use Rattle.ras_closure.proofs.Laws.{consistent}
use Rattle.ras_closure.proofs.Assembly.{model-of}
use Rattle.ras_closure.proofs.Cases.{same_or, some_same}

-- a list of what there is for each number
pub choose : {X : Type 0} (P : ℕ → X → Type 0) (d : X) (n : ℕ) → ((k : ℕ) → k < n → (y : X) × P k y) → (ys : List X) × (length ys ≡ n) × ((k : ℕ) → k < n → P k (get_or ys k d))
choose P d zero f = ([], refl, λ k lt. absurd (omega arith))
choose {X = X} P d (suc n) f =
    let first = f 0 (omega arith) in
    let rest = choose (λ k y. P (suc k) y) d n (λ k lt. f (suc k) (omega arith)) in
    (first.0 ∷ rest.0, omega (arith, rest.1), λ k lt. each first.0 first.1 rest.0 rest.2 k lt)
  where
    each : (y : X) → P 0 y → (ys : List X) → ((k : ℕ) → k < n → P (suc k) (get_or ys k d)) → (k : ℕ) → k < suc n → P k (get_or (y ∷ ys) k d)
    each y p ys q zero lt = p
    each y p ys q (suc k) lt = q k (omega arith)

-- the first number of which it holds, or none
search_to : (P : ℕ → Type 0) → ((k : ℕ) → P k ⊎ (P k → ⊥)) → (n : ℕ) → ((k : ℕ) × (k < n) × P k) ⊎ ((k : ℕ) → k < n → P k → ⊥)
search_to P decide zero = inr (λ k lt. absurd (omega arith))
search_to P decide (suc n) =
    ⊎_elim (λ (h : (k : ℕ) × (k < n) × P k). inl (h.0, omega (arith, h.1), h.2))
    (λ (none : (k : ℕ) → k < n → P k → ⊥). ⊎_elim (λ (h : P n). inl (n, omega arith, h)) (λ (no_here : P n → ⊥). inr (λ k lt p. last none no_here k lt p (same_or k n))) (decide n)) (search_to P decide n)
  where
    last : ((k : ℕ) → k < n → P k → ⊥) → (P n → ⊥) → (k : ℕ) → k < suc n → P k → (k ≡ n) ⊎ (k ≢ n) → ⊥
    last none no_here k lt p (inl e) = no_here (subst P e p)
    last none no_here k lt p (inr e) = none k (omega arith) p

base_same : (a b : Base) → (a ≡ b) ⊎ (a ≢ b)
base_same (Var x) (Var y) = ⊎_elim (λ (e : x.n ≡ y.n). inl (ap (λ (m : ℕ). Var (record { n = m })) e)) (λ (h : x.n ≢ y.n). inr (λ (e : Var x ≡ Var y). let r : x ≡ y = cc in h (ap (λ (q : VarId). q.n) r))) (same_or x.n y.n)
base_same (Cell r c) (Cell s d) =
    ⊎_elim (λ (e : r ≡ s). ⊎_elim (λ (g : c ≡ d). inl (cc)) (λ (h : c ≢ d). inr (λ (q : Cell r c ≡ Cell s d). h (cc))) (same_or c d)) (λ (h : r ≢ s). inr (λ (q : Cell r c ≡ Cell s d). h (cc))) (same_or r s)
base_same (Constant x) (Constant y) = ⊎_elim (λ (e : x.n ≡ y.n). inl (ap (λ (m : ℕ). Constant (record { n = m })) e)) (λ (h : x.n ≢ y.n). inr (λ (e : Constant x ≡ Constant y). let r : x ≡ y = cc in h (ap (λ (q : ConstId). q.n) r))) (same_or x.n y.n)
base_same (Undef x) (Undef y) = ⊎_elim (λ (e : x.n ≡ y.n). inl (ap (λ (m : ℕ). Undef (record { n = m })) e)) (λ (h : x.n ≢ y.n). inr (λ (e : Undef x ≡ Undef y). let r : x ≡ y = cc in h (ap (λ (q : SortId). q.n) r))) (same_or x.n y.n)
base_same (Param p) (Param q) = ⊎_elim (λ (e : p ≡ q). inl (cc)) (λ (h : p ≢ q). inr (λ (e : Param p ≡ Param q). h (cc))) (same_or p q)
base_same a b = inr (λ (e : a ≡ b). cc)

term_is_base : (t : Term) (b : Base) → (t ≡ base_term b) ⊎ (t ≢ base_term b)
term_is_base t b = go t.path refl
  where
    go : (p : List FunId) → t.path ≡ p → (t ≡ base_term b) ⊎ (t ≢ base_term b)
    go [] e = ⊎_elim (λ (g : t.base ≡ b). inl (whole e g)) (λ (h : t.base ≢ b). inr (λ (q : t ≡ base_term b). h (ap (λ (u : Term). u.base) q))) (base_same t.base b)
      where
        whole : t.path ≡ [] → t.base ≡ b → t ≡ base_term b
        whole e g = ap (λ (p : List FunId). let u : Term = record { base = t.base; path = p } in u) e ∙ ap base_term g
    go (f ∷ p) e = inr (λ (q : t ≡ base_term b). let k : f ∷ p ≡ [] = sym e ∙ ap (λ (u : Term). u.path) q in cc)

at_or : (terms : List Term) (b : Base) (k : ℕ) → IsAt terms k (base_term b) ⊎ (IsAt terms k (base_term b) → ⊥)
at_or terms b k = go (slice_get terms k) refl
  where
    go : (o : Option Term) → slice_get terms k ≡ o → IsAt terms k (base_term b) ⊎ (IsAt terms k (base_term b) → ⊥)
    go None e = inr (λ h. none (sym e ∙ h))
      where
        none : None ≡ Some (base_term b) → ⊥
        none h = cc
    go (Some t) e = ⊎_elim (λ (g : t ≡ base_term b). inl (e ∙ ap (λ (u : Term). Some u) g)) (λ (h : t ≢ base_term b). inr (λ q. h (some_same (sym e ∙ q)))) (term_is_base t b)

element-of : (terms : List Term) (number : ℕ → ℕ) (b : Base) → (x : ℕ) × IsElementOf terms number b x
element-of terms number b =
    ⊎_elim (λ (h : (k : ℕ) × (k < length terms) × IsAt terms k (base_term b)). (number h.0, inl (h.0, h.2, refl)))
    (λ (none : (k : ℕ) → k < length terms → IsAt terms k (base_term b) → ⊥). (0, inr (λ i at. none i (slice_get_within terms i (base_term b) at) at, refl)))
    (search_to (λ k. IsAt terms k (base_term b)) (at_or terms b) (length terms))

pub elements-of : (terms : List Term) (number : ℕ → ℕ) (base : ℕ → Base) (count : ℕ) → (xs : List ℕ) × AreElementsOf terms number base count xs
elements-of terms number base count =
    let c = choose (λ k x. IsElementOf terms number (base k) x) 0 count (λ k lt. element-of terms number (base k)) in
    (c.0, record { as_many = c.1; each = c.2 })

module _ (t : TableParts) (table : IsTable t) (number : ℕ → ℕ) (size : SortId → ℕ) where
  image_at_or : (f : FunId) (x k : ℕ) → IsImageAt t number f x k ⊎ (IsImageAt t number f x k → ⊥)
  image_at_or f x k = go (slice_get t.links k) refl
    where
      go : (o : Option Link) → slice_get t.links k ≡ o → IsImageAt t number f x k ⊎ (IsImageAt t number f x k → ⊥)
      go None e = inr (λ h. none h.of (sym e ∙ h.link))
        where
          none : (of : ℕ) → None ≡ Some (Image of f) → ⊥
          none of h = cc
      go (Some BaseLink) e = inr (λ h. none h.of (sym e ∙ h.link))
        where
          none : (of : ℕ) → Some BaseLink ≡ Some (Image of f) → ⊥
          none of h = cc
      go (Some (Image of g)) e =
          ⊎_elim
          (λ (same : g.n ≡ f.n).
          ⊎_elim (λ (here : number of ≡ x). inl (record { of = of; link = e ∙ ap (λ (m : ℕ). Some (Image of (record { n = m }))) same; argument = here }))
          (λ (differ : number of ≢ x). inr (λ h. differ (ap number (of_same h.of (sym e ∙ h.link)) ∙ h.argument))) (same_or (number of) x))
          (λ (differ : g.n ≢ f.n). inr (λ h. differ (ap (λ (q : FunId). q.n) (function_same h.of (sym e ∙ h.link))))) (same_or g.n f.n)
        where
          of_same : (m : ℕ) → Some (Image of g) ≡ Some (Image m f) → of ≡ m
          of_same m h = cc

          function_same : (m : ℕ) → Some (Image of g) ≡ Some (Image m f) → g ≡ f
          function_same m h = cc

  pub image-of : (f : FunId) (decl : FunDecl) (x : ℕ) → (y : ℕ) × IsImage t.terms number size f decl x y
  image-of f decl x =
      ⊎_elim (λ (h : (k : ℕ) × (k < length t.terms) × IsImageAt t number f x k). (number h.0, image-found t table number f x size decl h.0 (number h.0) h.2 refl))
      (λ (none : (k : ℕ) → k < length t.terms → IsImageAt t number f x k → ⊥). (cond decl.total (size decl.target) 0, inr (image-none t table number f x none, refl)))
      (search_to (IsImageAt t number f x) (image_at_or f x) (length t.terms))

  table-of : (f : FunId) (decl : FunDecl) → (ys : List ℕ) × IsTableOf t.terms number size f decl ys
  table-of f decl =
      let c = choose (λ k y. IsImage t.terms number size f decl (k + 1) y) 0 (size decl.source) (λ k lt. image-of f decl (k + 1)) in
      (c.0, record { long = c.1; images = λ k lt. c.2 k (rw (← c.1) lt) })

  table_at : (k : ℕ) (o : Option FunDecl) → slice_get t.shape.schema.functions k ≡ o
      → (ys : List ℕ) × ((decl : FunDecl) → slice_get t.shape.schema.functions k ≡ Some decl → IsTableOf t.terms number size (record { n = k }) decl ys)
  table_at k None e = ([], λ decl h. absurd (nothing decl (sym e ∙ h)))
    where
      nothing : (decl : FunDecl) → None ≡ Some decl → ⊥
      nothing decl h = cc
  table_at k (Some decl) e =
      let y = table-of (record { n = k }) decl in
      (y.0, λ other h. subst (λ (q : FunDecl). IsTableOf t.terms number size (record { n = k }) q y.0) (some_same (sym e ∙ h)) y.1)

  abbrev IsRowOf : ℕ → List ℕ → Type 0
  IsRowOf k ys = (r : RelId) → slice_get t.problem.rows k ≡ Some r → AreElementsOf t.terms number (Cell k) (length (get_or t.shape.relations r.n [])) ys

  row_at : (k : ℕ) (o : Option RelId) → slice_get t.problem.rows k ≡ o → (ys : List ℕ) × IsRowOf k ys
  row_at k None e = ([], λ r h. absurd (nothing r (sym e ∙ h)))
    where
      nothing : (r : RelId) → None ≡ Some r → ⊥
      nothing r h = cc
  row_at k (Some r) e =
      let y = elements-of t.terms number (Cell k) (length (get_or t.shape.relations r.n [])) in
      (y.0, λ other h. subst (λ (q : RelId). AreElementsOf t.terms number (Cell k) (length (get_or t.shape.relations q.n [])) y.0) (some_same (sym e ∙ h)) y.1)

-- without a clash the facts hold somewhere
pub a_model : (c : ClosureParts) → IsTable c.table → IsClosure c → c.clash ≡ None → (d : RawDb) × (v : Values) × IsModelOf c d v
a_model c table closure none =
    let number : ℕ → ℕ = number_of c.table.shape.schema.sorts c.classes in
    let size : SortId → ℕ = λ _. room_of c.table.shape.schema.sorts c.table.terms in
    let numbers = uniform-numbers c.table.shape c.table.problem.rows c.table.problem.params table.shape.schema c.table.problem.literals table.fits.literals (IsFactOf c) closure.facts_fit
    c.table.terms c.classes table.terms (below c.table table c.marks c.classes closure.partial) (consistent c table closure none) closure.partial.sound in
    let sizes = choose (λ (k y : ℕ). y ≡ room_of c.table.shape.schema.sorts c.table.terms) 0 c.table.shape.schema.sorts (λ k lt. (room_of c.table.shape.schema.sorts c.table.terms, refl)) in
    let tables = choose {X = List ℕ} (λ k ys. (decl : FunDecl) → slice_get c.table.shape.schema.functions k ≡ Some decl → IsTableOf c.table.terms number size (record { n = k }) decl ys) []
    (length c.table.shape.schema.functions) (λ k lt. table_at c.table table number size k (slice_get c.table.shape.schema.functions k) refl) in
    let constants = choose (λ (k y : ℕ). y ≡ number (c.table.shape.schema.sorts + k)) 0 (length c.table.shape.schema.constants) (λ k lt. (number (c.table.shape.schema.sorts + k), refl)) in
    let vars = elements-of c.table.terms number variable (length c.table.shape.vars) in
    let rows = choose {X = List ℕ} (λ k ys. IsRowOf c.table table number size k ys) [] (length c.table.problem.rows)
    (λ k lt. row_at c.table table number size k (slice_get c.table.problem.rows k) refl) in
    let params = elements-of c.table.terms number Param (length c.table.problem.params) in
    let d : RawDb = record { sizes = sizes.0; tables = tables.0; constants = constants.0 } in
    let v : Values = record { vars = vars.0; rows = rows.0; params = params.0 } in (
      d,
      v,
      model-of c table closure none number size numbers d v
          (record {
            as_many_sizes = sizes.1;
            sizes = λ s lt. sizes.2 s.n lt;
            as_many_tables = tables.1;
            tables = record { each = λ f decl lt known. tables.2 f.n (rw (← tables.1) lt) decl known };
            as_many_constants = constants.1;
            constants = constants.2;
          })
          (record {
            vars = vars.1;
            as_many_rows = rows.1;
            rows_with = record { each = λ k r lt known. rows.2 k (rw (← rows.1) lt) r known };
            param_values = params.1;
          }),
    )

pub not_without : (c : ClosureParts) → IsTable c.table → IsClosure c → c.clash ≡ None → HasNoModel c → ⊥
not_without c table closure none no_model = let m = a_model c table closure none in no_model m.0 m.1 m.2.database m.2.values m.2.facts
