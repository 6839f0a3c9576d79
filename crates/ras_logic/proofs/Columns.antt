-- The columns of all relations in order, one relation after another.
use Rattle.std.proofs.Common.{◌≡◌, ℕ, suc, ◌+◌, ◌<◌, List, [], ◌∷◌, ◌++◌, length, take, drop, get_or, sym, ◌∙◌, ap, subst, arith, add-one, length-append, append-nil}
use Rattle.std.specs.Prelude.{All}
use Rattle.std.proofs.Math.Seq.{take-suc, split_at, take-append-add}
use Rattle.std.proofs.lemmas.Grind.{flat_map-append}
use Rattle.std.proofs.lemmas.List.{take-append-le, get_or-append-add, get_or_append_left}
use Rattle.std.proofs.lemmas.List.Elements.{All-append, All-nil, All-head, All-tail}
use Rattle.ras_logic.specs.declared.ids.SortId.{SortId}
use Rattle.ras_logic.specs.Places.{IsFirstBad}
use Rattle.ras_logic.specs.ShapeFaults.{all_columns}

-- one relation more
pub all_columns-more : (relations : List (List SortId)) (i : ℕ) (columns : List SortId) → i < length relations → columns ≡ get_or relations i columns
    → all_columns (take (i + 1) relations) ≡ all_columns (take i relations) ++ columns
all_columns-more relations i columns lt here =
    rw (add-one, take-suc relations i columns lt, flat_map-append (λ (c : List SortId). c) (take i relations) (get_or relations i columns ∷ []))
    (ap (λ (c : List SortId). all_columns (take i relations) ++ c) (append-nil (get_or relations i columns) ∙ sym here))

-- the relations before one, its columns, and the rest
all_columns-split : (relations : List (List SortId)) (i : ℕ) (columns : List SortId) → i < length relations → columns ≡ get_or relations i columns
    → all_columns relations ≡ all_columns (take i relations) ++ (columns ++ all_columns (drop (suc i) relations))
all_columns-split relations i columns lt here =
    ap all_columns (split_at relations i columns lt)
    ∙ flat_map-append (λ (c : List SortId). c) (take i relations) (get_or relations i columns ∷ drop (suc i) relations)
    ∙ ap (λ (c : List SortId). all_columns (take i relations) ++ (c ++ all_columns (drop (suc i) relations))) (sym here)

module _ (P : SortId → Type 0) where
  pub All-all_columns : (relations : List (List SortId)) → All (All P) relations → All P (all_columns relations)
  All-all_columns [] all = All-nil P
  All-all_columns (columns ∷ relations) all =
      All-append P columns (all_columns relations) (All-head (All P) columns relations all) (All-all_columns relations (All-tail (All P) columns relations all))

  first_between : (before columns after : List SortId) (k : ℕ) → All P before → IsFirstBad P columns k → IsFirstBad P (before ++ (columns ++ after)) (length before + k)
  first_between before columns after k good first =
      let within : k < length columns = first.within in
      record {
        within = omega (arith, within, length-append before (columns ++ after), length-append columns after);
        before = rw (take-append-add before (columns ++ after) k, take-append-le k columns after (omega arith)) (All-append P before (take k columns) good first.before);
        bad = λ d holds. first.bad d (subst P (get_or-append-add before (columns ++ after) k d ∙ get_or_append_left columns after d k within) holds);
      }

  -- the first bad column of a relation, where those before are good
  pub first_in_all : (relations : List (List SortId)) (i : ℕ) (columns : List SortId) (before k : ℕ) → i < length relations → columns ≡ get_or relations i columns
      → All (All P) (take i relations) → before ≡ length (all_columns (take i relations)) → IsFirstBad P columns k → IsFirstBad P (all_columns relations) (before + k)
  first_in_all relations i columns before k lt here good counted first =
      rw (all_columns-split relations i columns lt here, counted)
      (first_between (all_columns (take i relations)) columns (all_columns (drop (suc i) relations)) k (All-all_columns (take i relations) good) first)
