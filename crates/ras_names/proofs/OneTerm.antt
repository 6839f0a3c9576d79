-- A term or literal of a text denotes one of one sort at most.
use Rattle.std.proofs.Common.{◌≡◌, ℕ, List, [], ◌∷◌, ◌++◌, sym, ◌∙◌, ap, subst}
use Rattle.std.specs.Prelude.{slice_get, Some}
use Rattle.ras_logic.specs.declared.ids.SortId.{SortId}
use Rattle.ras_logic.specs.declared.ids.FunId.{FunId}
use Rattle.ras_logic.specs.declared.ids.RelId.{RelId}
use Rattle.ras_logic.specs.declared.function.FunDecl.{FunDecl}
use Rattle.ras_logic.specs.declared.term.Base.{Base}
use Rattle.ras_logic.specs.declared.term.Base.TheVariants.{Var, Cell, Constant, Undef, Param}
use Rattle.ras_logic.specs.declared.term.Term.{Term}
use Rattle.ras_logic.specs.Shapes.{ShapeParts}
use Rattle.ras_logic.specs.Terms.{base_term, image_term, sort_of, sort_of_base, sort_after, sort_along}
use Rattle.ras_logic.proofs.TermSorts.{and_then_through, and_then_from, sort_after-step, sort_along-append, undef-sort}
use Rattle.ras_logic.proofs.ByPlace.{one_value}
use Rattle.ras_syntax.specs.Grammar as grammar
use Rattle.ras_syntax.specs.Grammar.{Text}
use Rattle.ras_names.specs.declared.names.RelNames.{RelNames}
use Rattle.ras_names.specs.Lists.{HasNumber}
use Rattle.ras_names.specs.Terms.{Scope, IsCell, IsNamed, TermDenotes, IsUndef}
use Rattle.ras_names.proofs.Numbered.{AreNumbered, AreApart}

-- the names of a scope have one meaning each
pub record IsClear (scope : Scope) : Type 0 where
  pub functions : AreNumbered scope.names.functions
  pub constants : AreNumbered scope.names.constants
  pub vars : AreNumbered scope.names.vars
  pub params : AreNumbered scope.params
  pub rows : AreNumbered scope.rows
  pub constants_vars : AreApart scope.names.constants scope.names.vars
  pub constants_params : AreApart scope.names.constants scope.params
  pub vars_params : AreApart scope.names.vars scope.params
  pub columns : (k : ℕ) (r : RelNames) → slice_get scope.names.relations k ≡ Some r → AreNumbered r.columns

-- the sort of a term inside a function
pub record Inside (shape : ShapeParts) (rows : List RelId) (params : List SortId) (t : Term) (f : FunId) (s : SortId) : Type 0 where
  pub argument : SortId
  pub known : sort_of shape rows params t ≡ Some argument
  pub decl : FunDecl
  pub is_decl : slice_get shape.schema.functions f.n ≡ Some decl
  pub source : decl.source ≡ argument
  pub target_is : decl.target ≡ s

pub image-inside : (shape : ShapeParts) (rows : List RelId) (params : List SortId) (t : Term) (f : FunId) (s : SortId)
    → sort_of shape rows params (image_term t f) ≡ Some s → Inside shape rows params t f s
image-inside shape rows params t f s h =
    let schema = shape.schema in
    let a = and_then_through (sort_along schema (t.path ++ f ∷ [])) (sort_of_base shape rows params t.base) s h in
    let b = and_then_through (sort_along schema (f ∷ [])) (sort_along schema t.path a.mid) s (sym (sort_along-append schema t.path (f ∷ []) a.mid) ∙ a.second) in
    let c = and_then_through (sort_along schema []) (sort_after schema f b.mid) s b.second in
    let step = sort_after-step schema f b.mid c.mid c.first in record {
      argument = b.mid;
      known = and_then_from (sort_along schema t.path) (sort_of_base shape rows params t.base) a.mid b.mid a.first b.first;
      decl = step.decl;
      is_decl = step.known;
      source = step.source;
      target_is = step.target_is ∙ (let e : c.mid ≡ s = cc in e);
    }

some_is : {X : Type 0} (x y : X) → Some x ≡ Some y → x ≡ y
some_is x y e = cc

module _ (scope : Scope) (clear : IsClear scope) where
  named-unique : (name : Text) (b c : Base) → IsNamed scope name b → IsNamed scope name c → b ≡ c
  named-unique name (Var v) (Var w) h k = ap (λ (n : ℕ). Var (record { n = n })) (clear.vars name v.n w.n h k)
  named-unique name (Var v) (Constant c) h k = absurd (clear.constants_vars name c.n v.n k h)
  named-unique name (Var v) (Param p) h k = absurd (clear.vars_params name v.n p h k)
  named-unique name (Var v) (Cell m n) h k = absurd k
  named-unique name (Var v) (Undef s) h k = absurd k
  named-unique name (Constant c) (Var w) h k = absurd (clear.constants_vars name c.n w.n h k)
  named-unique name (Constant c) (Constant d) h k = ap (λ (n : ℕ). Constant (record { n = n })) (clear.constants name c.n d.n h k)
  named-unique name (Constant c) (Param p) h k = absurd (clear.constants_params name c.n p h k)
  named-unique name (Constant c) (Cell m n) h k = absurd k
  named-unique name (Constant c) (Undef s) h k = absurd k
  named-unique name (Param p) (Var w) h k = absurd (clear.vars_params name w.n p k h)
  named-unique name (Param p) (Constant c) h k = absurd (clear.constants_params name c.n p k h)
  named-unique name (Param p) (Param q) h k = ap Param (clear.params name p q h k)
  named-unique name (Param p) (Cell m n) h k = absurd k
  named-unique name (Param p) (Undef s) h k = absurd k
  named-unique name (Cell m n) c h k = absurd h
  named-unique name (Undef s) c h k = absurd h

  -- `row.column` is one cell
  pub record SameCell (m n k l : ℕ) : Type 0 where
    pub row : m ≡ k
    pub column : n ≡ l

  pub cell-unique : (row column : Text) (m n k l : ℕ) → IsCell scope row column m n → IsCell scope row column k l → SameCell m n k l
  cell-unique row column m n k l a b =
      let one_row : m ≡ k = clear.rows row m k a.0 b.0 in
      let relation : a.1.0 ≡ b.1.0 = one_value scope.relations k a.1.0 b.1.0 (subst (λ i. slice_get scope.relations i ≡ Some a.1.0) one_row a.1.1) b.1.1 in
      let names : a.1.2.0 ≡ b.1.2.0 =
      one_value scope.names.relations b.1.0.n a.1.2.0 b.1.2.0 (subst (λ (r : RelId). slice_get scope.names.relations r.n ≡ Some a.1.2.0) relation a.1.2.1) b.1.2.1 in
      record {
        row = one_row;
        column = clear.columns b.1.0.n b.1.2.0 b.1.2.1 column n l (subst (λ (r : RelNames). HasNumber r.columns column n) names a.1.2.2) b.1.2.2;
      }

  module _ (shape : ShapeParts) (params : List SortId) where
    abbrev sort : Term → SortId → Type 0
    sort t s = sort_of shape scope.relations params t ≡ Some s

    pub term-unique : (t : grammar.Term) (u v : Term) (a b : SortId) → TermDenotes scope t u → TermDenotes scope t v → sort u a → sort v b → (IsUndef t → a ≡ b) → u ≡ v
    term-unique (grammar.call name t) u v a b h k i j wanted =
        let f : FunId = h.1 in
        let g : FunId = k.1 in
        let one_function : f ≡ g = ap (λ (n : ℕ). record { n = n }) (clear.functions name f.n g.n h.3 k.3) in
        let in_u = image-inside shape scope.relations params h.0 f a (subst (λ t. sort t a) h.4 i) in
        let in_v = image-inside shape scope.relations params k.0 g b (subst (λ t. sort t b) k.4 j) in
        let decl : in_u.decl ≡ in_v.decl =
        one_value shape.schema.functions g.n in_u.decl in_v.decl (subst (λ (e : FunId). slice_get shape.schema.functions e.n ≡ Some in_u.decl) one_function in_u.is_decl) in_v.is_decl in
        let argument : in_u.argument ≡ in_v.argument = sym in_u.source ∙ ap (λ (d : FunDecl). d.source) decl ∙ in_v.source in
        let inside : h.0 ≡ k.0 = term-unique t h.0 k.0 in_u.argument in_v.argument h.2 k.2 in_u.known in_v.known (λ undef. argument) in
        h.4 ∙ ap (λ (t : Term). image_term t f) inside ∙ ap (image_term k.0) one_function ∙ sym k.4
    term-unique (grammar.cell row column) u v a b h k i j wanted =
        let same = cell-unique row column h.0 h.1 k.0 k.1 h.2 k.2 in
        h.3 ∙ ap (λ (m : ℕ). base_term (Cell m h.1)) same.row ∙ ap (λ (n : ℕ). base_term (Cell k.0 n)) same.column ∙ sym k.3
    term-unique (grammar.plain name) u v a b h k i j wanted = h.2 ∙ ap base_term (named-unique name h.0 k.0 h.1 k.1) ∙ sym k.2
    term-unique grammar.undef u v a b h k i j wanted =
        let one : h.0 ≡ a = undef-sort shape scope.relations params h.0 a (subst (λ t. sort t a) h.1 i) in
        let other : k.0 ≡ b = undef-sort shape scope.relations params k.0 b (subst (λ t. sort t b) k.1 j) in
        h.1 ∙ ap (λ (s : SortId). base_term (Undef s)) (one ∙ wanted tt ∙ sym other) ∙ sym k.1

    -- one term has one sort
    pub sort-unique : (t u : Term) (a b : SortId) → t ≡ u → sort t a → sort u b → a ≡ b
    sort-unique t u a b e i j = some_is a b (sym (subst (λ x. sort x a) e i) ∙ j)
