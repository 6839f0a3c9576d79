-- Trivial literals that are added one after the other.
use Rattle.std.proofs.Common.{◌≡◌, ℕ, ◌+◌, ◌<◌, ◌≤◌, true, List, [], ◌∷◌, ◌++◌, length, refl, sym, subst, arith, ⊎_elim}
use Rattle.std.specs.Prelude.{Option, Some, None, All}
use Rattle.std.specs.Option.{is_some}
use Rattle.std.proofs.lemmas.List.Elements.{All-push, All-weaker, Contains-push, Contains-append_left}
use Rattle.ras_logic.specs.declared.ids.SortId.{SortId}
use Rattle.ras_logic.specs.declared.ids.RelId.{RelId}
use Rattle.ras_logic.specs.declared.term.Term.{Term}
use Rattle.ras_logic.specs.declared.literal.Literal.{Literal}
use Rattle.ras_logic.specs.Shapes.{ShapeParts}
use Rattle.ras_logic.specs.Terms.{sort_of}
use Rattle.ras_logic.specs.Literals.{left_of, right_of}
use Rattle.ras_row_maps.proofs.ListPairs.{place_cases}
use Rattle.ras_subsumption.specs.Widened.{over_row, itself, IsTrivial, HasOver, HasOverRows, HasSidesOver, AddsTrivial}

module _ (shape : ShapeParts) (rows : List RelId) where
  pub adds-none : (literals : List Literal) → AddsTrivial shape rows literals literals
  adds-none literals = record { kept = λ l h. h; trivial = λ all. all }

  pub adds-more : (old mid new : List Literal) → AddsTrivial shape rows old mid → AddsTrivial shape rows mid new → AddsTrivial shape rows old new
  adds-more old mid new a b = record { kept = λ l h. b.kept l (a.kept l h); trivial = λ all. b.trivial (a.trivial all) }

  -- a term that has a sort is added
  pub adds-term : (old : List Literal) (t : Term) → is_some (sort_of shape rows [] t) ≡ true → AddsTrivial shape rows old (old ++ itself t ∷ [])
  adds-term old t some = go (sort_of shape rows [] t) refl some
    where
      go : (o : Option SortId) → sort_of shape rows [] t ≡ o → is_some o ≡ true → AddsTrivial shape rows old (old ++ itself t ∷ [])
      go None e h = absurd (cc)
      go (Some s) e h = record {
        kept = λ l inside. Contains-append_left old (itself t ∷ []) l inside;
        trivial = λ all. All-push (IsTrivial shape rows) old (itself t) all (record { term = t; says = refl; fits = (s, e, e) });
      }

  pub has-pushed : (old : List Literal) (t : Term) (row : ℕ) → HasOver shape rows (old ++ itself (over_row row t) ∷ []) t row
  has-pushed old t row s sorted = Contains-push old (itself (over_row row t))

  -- a term that has no sort need not be added
  pub has-unsorted : (literals : List Literal) (t : Term) (row : ℕ) → ¬ (is_some (sort_of shape rows [] (over_row row t)) ≡ true) → HasOver shape rows literals t row
  has-unsorted literals t row none s sorted = absurd (none (subst (λ (o : Option SortId). is_some o ≡ true) (sym sorted) refl))

  pub over-kept : (old new : List Literal) (t : Term) (row : ℕ) → AddsTrivial shape rows old new → HasOver shape rows old t row → HasOver shape rows new t row
  over-kept old new t row adds has s sorted = adds.kept (itself (over_row row t)) (has s sorted)

  -- the term over the first rows is among the literals' terms
  abbrev pub HasOverBelow : List Literal → Term → ℕ → Type 0
  HasOverBelow literals t below = (row : ℕ) → row < below → HasOver shape rows literals t row

  pub below-one : (literals : List Literal) (t : Term) → HasOver shape rows literals t 0 → HasOverBelow literals t 1
  below-one literals t has row lt = let e : 0 ≡ row = omega (arith, lt) in subst (HasOver shape rows literals t) e has

  pub below-more : (old new : List Literal) (t : Term) (below : ℕ) → AddsTrivial shape rows old new → HasOverBelow old t below → HasOver shape rows new t below → HasOverBelow new t (below + 1)
  below-more old new t below adds has here row lt =
      ⊎_elim (λ (less : row < below). over-kept old new t row adds (has row less)) (λ (e : row ≡ below). subst (HasOver shape rows new t) (sym e) here) (place_cases row below lt)

  pub rows-all : (literals : List Literal) (t : Term) (below : ℕ) → 1 ≤ below → length rows ≤ below → HasOverBelow literals t below → HasOverRows shape rows literals t
  rows-all literals t below some all has row which =
      ⊎_elim (λ (e : row ≡ 0). has row (omega (arith, e, some))) (λ (lt : row < length rows). has row (omega (arith, lt, all))) which

  pub rows-kept : (old new : List Literal) (t : Term) → AddsTrivial shape rows old new → HasOverRows shape rows old t → HasOverRows shape rows new t
  rows-kept old new t adds has row which = over-kept old new t row adds (has row which)

  pub all-kept : (old new literals : List Literal) → AddsTrivial shape rows old new → All (HasSidesOver shape rows old) literals → All (HasSidesOver shape rows new) literals
  all-kept old new literals adds =
      All-weaker (HasSidesOver shape rows old) (HasSidesOver shape rows new)
      (λ l h. record { left = rows-kept old new (left_of l) adds h.left; right = rows-kept old new (right_of l) adds h.right }) literals
