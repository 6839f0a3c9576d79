-- Classes that were put together only where a fact or a rule asks for it.
use Rattle.std.proofs.Common.{◌≡◌, ℕ, ◌<◌, true, List, length, sym, subst, ⊎_elim}
use Rattle.std.specs.Prelude.{slice_get, Some, Contains}
use Rattle.ras_logic.proofs.Elements.{from_known, contains-at}
use Rattle.ras_logic.specs.declared.ids.SortId.{SortId}
use Rattle.ras_logic.specs.declared.term.Base.TheVariants.{Undef}
use Rattle.ras_logic.specs.declared.term.Term.{Term}
use Rattle.ras_logic.specs.declared.literal.Literal.{Literal}
use Rattle.ras_logic.specs.declared.literal.Literal.TheVariants.{Equal}
use Rattle.ras_logic.specs.Schemas.{SchemaParts, HasSorts, IsSchema}
use Rattle.ras_logic.specs.Terms.{undef_term, image_term}
use Rattle.ras_logic.specs.Clashes.{Together, symmetric, transitive, stated, same_images, image_of_undef, only_undef}
use Rattle.ras_refute.specs.declared.entry.Entry.TheVariants.{Root}
use Rattle.ras_refute.specs.declared.entry.Pair.{Pair}
use Rattle.ras_refute.specs.declared.table.Table.{Table}
use Rattle.ras_logic.specs.Literals.{same_of}
use Rattle.ras_refute.specs.Tables.{IsAt, AreSidesOf, IsTableOf}
use Rattle.ras_refute.specs.Classes.{class, Unites, Due, by_fact, by_images, by_undef, by_total, AreSound}
use Rattle.ras_refute.proofs.Entries.{entry-at, term-at, at-within, at-same, image-of}
use Rattle.ras_refute.proofs.Due.{sides-at}

module _ (schema : SchemaParts) (facts : List Literal) (t : Table) (table : IsTableOf schema facts t) where
  -- the terms of these numbers are together
  AreTogether : ℕ → ℕ → Type 0
  AreTogether i j = (s u : Term) → IsAt t.entries i s → IsAt t.entries j u → Together schema facts (Contains facts) s u

  -- the undef of a sort that exists
  pub undef-at : (s : SortId) → s.n < schema.sorts → IsAt t.entries s.n (undef_term s)
  undef-at s lt = entry-at t.entries table.table s.n (Root (Undef s)) (table.undefs s lt)

  fact-together : (k : ℕ) (fact : Literal) (pair : Pair) → slice_get facts k ≡ Some fact → same_of fact ≡ true → AreSidesOf t.entries fact pair
      → (s u : Term) → IsAt t.entries pair.left s → IsAt t.entries pair.right u → Together schema facts (Contains facts) s u
  fact-together k (Equal left right same) pair known says sides s u at_s at_u =
      let left_is : left ≡ s = at-same t.entries table.table pair.left left s sides.0 at_s in
      let right_is : right ≡ u = at-same t.entries table.table pair.right right u sides.1 at_u in
      let fact_is : Equal left right same ≡ Equal s u true = cc in
      stated s u (subst (λ (l : Literal). Contains facts l) fact_is (contains-at facts k (Equal left right same) known))

  module _ (ok : IsSchema schema) (classes : List ℕ) (sound : AreSound schema facts t.entries classes) where
    -- what a fact or a rule asks for must be
    pub due-together : (i j : ℕ) → Due schema facts t classes i j → (s u : Term) → IsAt t.entries i s → IsAt t.entries j u → Together schema facts (Contains facts) s u
    due-together i j (by_fact k fact pair known numbers says) s u at_s at_u =
        fact-together k fact pair known says (sides-at t.entries facts t.sides table.numbers k fact pair known numbers) s u at_s at_u
    due-together i j (by_images a b of of2 f image_a image_b e) s u at_s at_u =
        let x = image-of t.entries table.table a of f image_a in
        let y = image-of t.entries table.table b of2 f image_b in
        let one : s ≡ image_term x.0 f = at-same t.entries table.table a s (image_term x.0 f) at_s x.2 in
        let two : u ≡ image_term y.0 f = at-same t.entries table.table b u (image_term y.0 f) at_u y.2 in
        rw (one, two) (same_images x.0 y.0 f (sound of of2 x.0 y.0 x.1 y.1 e) (table.known a (image_term x.0 f) x.2) (table.known b (image_term y.0 f) y.2))
    due-together i j (by_undef a of f d image_a known e) s u at_s at_u =
        let sorts = from_known (HasSorts schema.sorts) schema.functions ok.functions f.n d known in
        let x = image-of t.entries table.table a of f image_a in
        let one : s ≡ image_term x.0 f = at-same t.entries table.table a s (image_term x.0 f) at_s x.2 in
        let two : u ≡ undef_term d.target = at-same t.entries table.table d.target.n u (undef_term d.target) at_u (undef-at d.target sorts.1) in
        rw (one, two) (image_of_undef x.0 f d known (sound of d.source.n x.0 (undef_term d.source) x.1 (undef-at d.source sorts.0) e) (table.known a (image_term x.0 f) x.2))
    due-together i j (by_total a of f d image_a known total e) s u at_s at_u =
        let sorts = from_known (HasSorts schema.sorts) schema.functions ok.functions f.n d known in
        let x = image-of t.entries table.table a of f image_a in
        let one : s ≡ x.0 = at-same t.entries table.table of s x.0 at_s x.1 in
        let two : u ≡ undef_term d.source = at-same t.entries table.table d.source.n u (undef_term d.source) at_u (undef-at d.source sorts.0) in
        rw (one, two) (only_undef x.0 f d known total (sound a d.target.n (image_term x.0 f) (undef_term d.target) x.2 (undef-at d.target sorts.1) e))

  -- two classes that became one
  pub united-sound : (old new : List ℕ) (a b : ℕ) → length old ≡ length t.entries → a < length t.entries → b < length t.entries → AreSound schema facts t.entries old
      → ((s u : Term) → IsAt t.entries a s → IsAt t.entries b u → Together schema facts (Contains facts) s u) → Unites old new a b → AreSound schema facts t.entries new
  united-sound old new a b long lt_a lt_b sound together unites i j s u at_i at_j e =
      let ta = term-at t.entries table.table a lt_a in
      let tb = term-at t.entries table.table b lt_b in
      let ab = together ta.0 tb.0 ta.1 tb.1 in
      ⊎_elim (λ (h : class old i ≡ class old j). sound i j s u at_i at_j h)
      (⊎_elim
      (λ (h : (class old i ≡ class old a) × (class old j ≡ class old b)).
      transitive s ta.0 u (sound i a s ta.0 at_i ta.1 h.0) (transitive ta.0 tb.0 u ab (sound b j tb.0 u tb.1 at_j (sym h.1))))
      (λ (h : (class old i ≡ class old b) × (class old j ≡ class old a)).
      transitive s tb.0 u (sound i b s tb.0 at_i tb.1 h.0) (transitive tb.0 ta.0 u (symmetric ta.0 tb.0 ab) (sound a j ta.0 u ta.1 at_j (sym h.1)))))
      (unites.only i j (rw long (at-within t.entries table.table i s at_i)) (rw long (at-within t.entries table.table j u at_j)) e)
