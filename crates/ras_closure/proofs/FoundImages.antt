-- Images found by their links, and one more table or row.
use Rattle.std.proofs.Common.{◌≡◌, ℕ, ◌<◌, List, [], ◌∷◌, ◌++◌, length, get_or, sym, ◌∙◌, subst, inl, ⊎_elim, length-append}
use Rattle.std.specs.Prelude.{slice_get, Some}
use Rattle.std.proofs.lemmas.Option.{slice_get_within}
use Rattle.std.proofs.lemmas.List.{get_or_append_left, get_or_push}
use Rattle.ras_logic.specs.declared.ids.FunId.{FunId}
use Rattle.ras_logic.specs.declared.ids.SortId.{SortId}
use Rattle.ras_logic.specs.declared.ids.RelId.{RelId}
use Rattle.ras_logic.specs.declared.term.Base.TheVariants.{Cell}
use Rattle.ras_logic.specs.declared.function.FunDecl.{FunDecl}
use Rattle.ras_logic.specs.declared.term.Term.{Term}
use Rattle.ras_logic.specs.Schemas.{SchemaParts}
use Rattle.ras_logic.specs.Shapes.{ShapeParts}
use Rattle.ras_logic.specs.Terms.{image_term}
use Rattle.ras_closure.specs.Numbered.{TableParts, IsTable}
use Rattle.ras_closure.specs.Images.{HasNoImage, IsImageAt}
use Rattle.ras_closure.specs.Models.{IsImage, IsTableOf, AreTables}
use Rattle.ras_closure.specs.Values.{AreElementsOf, AreRowsWith}
use Rattle.ras_closure.proofs.Merges.{link-of, term_at}
use Rattle.ras_closure.proofs.Cases.{below_or_same, some_same}

module _ (t : TableParts) (table : IsTable t) (number : ℕ → ℕ) (f : FunId) (x : ℕ) where
  pub image-found : (size : SortId → ℕ) (decl : FunDecl) (k y : ℕ) → IsImageAt t number f x k → y ≡ number k → IsImage t.terms number size f decl x y
  image-found size decl k y h e =
      let s = term_at t.terms h.of (table.links.of_terms k h.of f h.link) in
      inl (h.of, k, s.0, s.1, table.links.images k h.of f s.0 h.link s.1, h.argument, e)

  pub image-none : ((k : ℕ) → k < length t.terms → IsImageAt t number f x k → ⊥) → HasNoImage t.terms number f x
  image-none none i k s at_i at_k e =
      none k (slice_get_within t.terms k (image_term s f) at_k) (record { of = i; link = link-of t table k i s f at_i at_k; argument = e })

-- one table more
pub tables-more : (schema : SchemaParts) (terms : List Term) (number : ℕ → ℕ) (size : SortId → ℕ) (tables : List (List ℕ)) (table : List ℕ) (k : ℕ) (decl : FunDecl) → length tables ≡ k
    → AreTables schema terms number size tables → slice_get schema.functions k ≡ Some decl → IsTableOf terms number size (record { n = k }) decl table
    → AreTables schema terms number size (tables ++ table ∷ [])
tables-more schema terms number size tables table k decl long are known is = record {
  each = λ f d lt f_known.
      ⊎_elim (λ (below : f.n < length tables). rw (get_or_append_left tables (table ∷ []) [] f.n below) (are.each f d below f_known))
      (λ (here : f.n ≡ length tables). last f d (here ∙ long) f_known) (below_or_same f.n (length tables) (rw (← length-append tables (table ∷ [])) lt));
}
  where
    last : (f : FunId) (d : FunDecl) → f.n ≡ k → slice_get schema.functions f.n ≡ Some d → IsTableOf terms number size f d (get_or (tables ++ table ∷ []) f.n [])
    last f d e f_known =
        let same : decl ≡ d = some_same (sym known ∙ subst (λ (m : ℕ). slice_get schema.functions m ≡ Some d) e f_known) in
        rw (get_or_push tables table [] f.n (long ∙ sym e))
        (subst (λ (q : FunDecl). IsTableOf terms number size f q table) same (subst (λ (m : ℕ). IsTableOf terms number size (record { n = m }) decl table) (sym e) is))

-- one row more
pub rows-more : (shape : ShapeParts) (rows : List RelId) (terms : List Term) (number : ℕ → ℕ) (cells : List (List ℕ)) (row : List ℕ) (k : ℕ) (r : RelId) → length cells ≡ k
    → AreRowsWith shape rows terms number cells → slice_get rows k ≡ Some r → AreElementsOf terms number (Cell k) (length (get_or shape.relations r.n [])) row
    → AreRowsWith shape rows terms number (cells ++ row ∷ [])
rows-more shape rows terms number cells row k r long are known is = record {
  each = λ m q lt q_known.
      ⊎_elim (λ (below : m < length cells). rw (get_or_append_left cells (row ∷ []) [] m below) (are.each m q below q_known))
      (λ (here : m ≡ length cells). last m q (here ∙ long) q_known) (below_or_same m (length cells) (rw (← length-append cells (row ∷ [])) lt));
}
  where
    last : (m : ℕ) (q : RelId) → m ≡ k → slice_get rows m ≡ Some q → AreElementsOf terms number (Cell m) (length (get_or shape.relations q.n [])) (get_or (cells ++ row ∷ []) m [])
    last m q e q_known =
        let same : r ≡ q = some_same (sym known ∙ subst (λ (x : ℕ). slice_get rows x ≡ Some q) e q_known) in
        rw (get_or_push cells row [] m (long ∙ sym e))
        (subst (λ (w : RelId). AreElementsOf terms number (Cell m) (length (get_or shape.relations w.n [])) row) same
        (subst (λ (x : ℕ). AreElementsOf terms number (Cell x) (length (get_or shape.relations r.n [])) row) (sym e) is))
