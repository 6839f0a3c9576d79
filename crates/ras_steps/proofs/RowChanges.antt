-- The rows after a step, one case, one row, one relation more.
use Rattle.std.proofs.Common.{◌≡◌, ℕ, zero, suc, ◌+◌, ◌<◌, ◌≤◌, Bool, true, false, List, [], ◌∷◌, ◌++◌, map, length, take, drop, get_or, min, nat_eq, refl, sym, ◌∙◌, ap, subst, arith, ◌&&◌, add-one}
use Rattle.std.specs.Prelude.{Option, Some, None, find}
use Rattle.std.specs.List.{enumerate_from}
use Rattle.std.proofs.lemmas.List.{at_drop_more, at_drop_all}
use Rattle.ras_logic.specs.declared.ids.RelId.{RelId}
use Rattle.ras_logic.specs.declared.raw_db.RawDb.{RawDb}
use Rattle.ras_logic.specs.declared.values.Values.{Values}
use Rattle.ras_system.specs.declared.bulk.Bulk.{Bulk}
use Rattle.ras_system.specs.declared.transition.Transition.{Transition}
use Rattle.ras_system.specs.Steps.{named_from, takes, unnamed_row, row_after, written, with_row, term_for_column}
use Rattle.ras_steps.proofs.Lists.{rest_at, rest_done, numbered_more}

named_past : (n : ℕ) (rows : List RelId) (chosen : List ℕ) (relation row k : ℕ) → min (length rows) (length chosen) ≤ k → named_from n (drop k rows) (drop k chosen) relation row ≡ None
named_past n [] chosen relation row zero le = refl
named_past n [] chosen relation row (suc k) le = refl
named_past n (r ∷ rows) [] relation row zero le = refl
named_past n (r ∷ rows) [] relation row (suc k) le = ended (drop k rows)
  where
    ended : (rest : List RelId) → named_from n rest [] relation row ≡ None
    ended [] = refl
    ended (q ∷ rest) = refl
named_past n (r ∷ rows) (c ∷ chosen) relation row zero le = absurd (omega arith)
named_past n (r ∷ rows) (c ∷ chosen) relation row (suc k) le = named_past n rows chosen relation row k (omega arith)

-- no row parameter names the row
pub named_none : (rows : List RelId) (chosen : List ℕ) (relation row k : ℕ) → min (length rows) (length chosen) ≤ k
    → named_from 0 rows chosen relation row ≡ named_from k (drop k rows) (drop k chosen) relation row → named_from 0 rows chosen relation row ≡ None
named_none rows chosen relation row k le so_far = so_far ∙ named_past k rows chosen relation row k le

module _ (d : RawDb) (v : Values) (relation : ℕ) (cells : List ℕ) where
  abbrev after : List Bulk → List ℕ
  after bulk = unnamed_row d v bulk relation cells

  taken : (b : Bulk) (bulk : List Bulk) → takes d v relation cells b ≡ true → after (b ∷ bulk) ≡ written d (with_row v cells) (term_for_column b.assigns) cells
  taken b bulk e = rw e

  left : (b : Bulk) (bulk : List Bulk) → takes d v relation cells b ≡ false → after (b ∷ bulk) ≡ after bulk
  left b bulk e = rw e

  pub taken_here : (bulk : List Bulk) (i : ℕ) (b : Bulk) → i < length bulk → b ≡ get_or bulk i b → after bulk ≡ after (drop i bulk) → takes d v relation cells b ≡ true
      → after bulk ≡ written d (with_row v cells) (term_for_column b.assigns) cells
  taken_here bulk i b lt here rest e = rest_at after bulk i b lt here rest ∙ taken b (drop (i + 1) bulk) e

  pub left_here : (bulk : List Bulk) (i : ℕ) (b : Bulk) → i < length bulk → b ≡ get_or bulk i b → after bulk ≡ after (drop i bulk) → takes d v relation cells b ≡ false
      → after bulk ≡ after (drop (i + 1) bulk)
  left_here bulk i b lt here rest e = rest_at after bulk i b lt here rest ∙ left b (drop (i + 1) bulk) e

module _ (d : RawDb) (v : Values) (t : Transition) (chosen : List ℕ) where
  abbrev pub new_rows : ℕ → List (List ℕ) → List (List ℕ)
  new_rows relation rows = map (λ (p : ℕ × List ℕ). row_after d v t chosen relation p.0 p.1) (enumerate_from 0 rows)

  pub rows_more : (relation : ℕ) (rows : List (List ℕ)) (i : ℕ) (cells : List ℕ) → i < length rows → cells ≡ get_or rows i cells
      → new_rows relation (take (i + 1) rows) ≡ new_rows relation (take i rows) ++ row_after d v t chosen relation i cells ∷ []
  rows_more relation rows i cells lt here = numbered_more (λ (p : ℕ × List ℕ). row_after d v t chosen relation p.0 p.1) rows i cells lt here

  abbrev pub new_relations : List (List (List ℕ)) → List (List (List ℕ))
  new_relations relations = map (λ (q : ℕ × List (List ℕ)). map (λ (p : ℕ × List ℕ). row_after d v t chosen q.0 p.0 p.1) (enumerate_from 0 q.1)) (enumerate_from 0 relations)

  pub relations_more : (relations : List (List (List ℕ))) (i : ℕ) (rows : List (List ℕ)) → i < length relations → rows ≡ get_or relations i rows
      → new_relations (take (i + 1) relations) ≡ new_relations (take i relations) ++ new_rows i rows ∷ []
  relations_more relations i rows lt here =
      numbered_more (λ (q : ℕ × List (List ℕ)). map (λ (p : ℕ × List ℕ). row_after d v t chosen q.0 p.0 p.1) (enumerate_from 0 q.1)) relations i rows lt here
