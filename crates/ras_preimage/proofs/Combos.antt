-- Combinations that are begun, and how they go on.
use Rattle.std.proofs.Common.{◌≡◌, ℕ, ◌+◌, ◌<◌, ◌≤◌, List, [], ◌∷◌, ◌++◌, map, length, get_or, drop, sym, ◌∙◌, ap, append-nil, append_assoc}
use Rattle.std.specs.List.{flat_map}
use Rattle.std.proofs.lemmas.List.{map-append, drop_more, drop_all}
use Rattle.ras_logic.specs.declared.ids.RelId.{RelId}
use Rattle.ras_system.specs.declared.bulk.Bulk.{Bulk}
use Rattle.ras_system.specs.Preimages.{CaseChoice, case_choices_from, case_choices}
use Rattle.ras_backwards.proofs.Combinations.{cases_of}
use Rattle.ras_preimage.specs.declared.ways.Way.{Way}
use Rattle.ras_preimage.specs.declared.unmatched_rows.UnmatchedRow.{UnmatchedRow}
use Rattle.ras_preimage.specs.Parts.{way_of, in_problem, row_of}
use Rattle.std.proofs.lemmas.List.Folds.{flat_map-map}
use Rattle.std.proofs.lemmas.List.Concat.{flat_map_single}
use Rattle.ras_preimage.proofs.FlatMaps.{map-flat_map, flat_map-flat_map, flat_map-same, map-map, map-same}

module _ (from : ℕ) (bulk : List Bulk) where
  -- what a combination that is begun becomes with the rows that are left
  abbrev pub completed : List (ℕ × RelId) → List Way → List (List CaseChoice)
  completed rows begun = map (λ (ws : List CaseChoice). map (way_of bulk) begun ++ map (in_problem from) ws) (case_choices bulk rows)

  completed-step : (q : ℕ × RelId) (rows : List (ℕ × RelId)) (ways : List Way) → map (way_of bulk) ways ≡ map (in_problem from) (case_choices_from q.0 [] (cases_of bulk q.1))
      → (begun : List Way) → completed (q ∷ rows) begun ≡ flat_map (completed rows) (map (λ (w : Way). begun ++ w ∷ []) ways)
  completed-step q rows ways are begun =
      let choices : List CaseChoice = case_choices_from q.0 [] (cases_of bulk q.1) in
      let put : List CaseChoice → List CaseChoice = λ ws. map (way_of bulk) begun ++ map (in_problem from) ws in
      let onto : CaseChoice → List (List CaseChoice) = λ x. map (λ (ws : List CaseChoice). map (way_of bulk) begun ++ x ∷ map (in_problem from) ws) (case_choices bulk rows) in
      map-flat_map put (λ (w : CaseChoice). map (λ (ws : List CaseChoice). w ∷ ws) (case_choices bulk rows)) choices
      ∙ flat_map-same (λ (w : CaseChoice). map put (map (λ (ws : List CaseChoice). w ∷ ws) (case_choices bulk rows))) (λ (w : CaseChoice). onto (in_problem from w))
      (λ w. map-map put (λ (ws : List CaseChoice). w ∷ ws) (case_choices bulk rows)) choices
      ∙ sym (flat_map-map onto (in_problem from) choices)
      ∙ ap (flat_map onto) (sym are)
      ∙ flat_map-map onto (way_of bulk) ways
      ∙ flat_map-same (λ (w : Way). onto (way_of bulk w)) (λ (w : Way). completed rows (begun ++ w ∷ []))
      (λ w. map-same (λ (ws : List CaseChoice). map (way_of bulk) begun ++ way_of bulk w ∷ map (in_problem from) ws) (λ (ws : List CaseChoice). map (way_of bulk) (begun ++ w ∷ []) ++ map (in_problem from) ws)
      (λ ws. sym (append_assoc (map (way_of bulk) begun) (way_of bulk w ∷ []) (map (in_problem from) ws))
      ∙ ap (λ (l : List CaseChoice). l ++ map (in_problem from) ws) (sym (map-append (way_of bulk) begun (w ∷ [])))) (case_choices bulk rows)) ways
      ∙ sym (flat_map-map (completed rows) (λ (w : Way). begun ++ w ∷ []) ways)

  pub combinations-step : (q : ℕ × RelId) (rows : List (ℕ × RelId)) (ways : List Way) → map (way_of bulk) ways ≡ map (in_problem from) (case_choices_from q.0 [] (cases_of bulk q.1))
      → (xs : List (List Way)) → flat_map (completed (q ∷ rows)) xs ≡ flat_map (completed rows) (flat_map (λ (begun : List Way). map (λ (w : Way). begun ++ w ∷ []) ways) xs)
  combinations-step q rows ways are xs =
      flat_map-same (completed (q ∷ rows)) (λ (begun : List Way). flat_map (completed rows) (map (λ (w : Way). begun ++ w ∷ []) ways)) (completed-step q rows ways are) xs
      ∙ sym (flat_map-flat_map (completed rows) (λ (begun : List Way). map (λ (w : Way). begun ++ w ∷ []) ways) xs)

  pub combinations-end : (xs : List (List Way)) → flat_map (completed []) xs ≡ map (map (way_of bulk)) xs
  combinations-end xs = flat_map-same (completed []) (λ (x : List Way). map (way_of bulk) x ∷ []) (λ x. ap (λ l. l ∷ []) (append-nil (map (way_of bulk) x))) xs ∙ flat_map_single (map (way_of bulk)) xs

  pub combinations-start : (rows : List (ℕ × RelId)) → flat_map (completed rows) ([] ∷ []) ≡ map (map (in_problem from)) (case_choices bulk rows)
  combinations-start rows = append-nil (map (map (in_problem from)) (case_choices bulk rows))

  pub combinations-more : (rest : List UnmatchedRow) (i : ℕ) (d : UnmatchedRow) (made ways used : List Way) (all next : List (List Way)) (target : List (List CaseChoice)) → i < length rest
      → map (way_of bulk) made ≡ map (in_problem from) (case_choices_from (get_or rest i d).number [] (cases_of bulk (get_or rest i d).relation)) → ways ≡ made → used ≡ ways
      → next ≡ flat_map (λ (begun : List Way). map (λ (w : Way). begun ++ w ∷ []) used) all
      → flat_map (completed (map row_of (drop i rest))) all ≡ target → flat_map (completed (map row_of (drop (i + 1) rest))) next ≡ target
  combinations-more rest i d made ways used all next target lt are same shared is so_far =
      ap (flat_map (completed (map row_of (drop (i + 1) rest)))) is
      ∙ sym (combinations-step (row_of (get_or rest i d)) (map row_of (drop (i + 1) rest)) used (ap (map (way_of bulk)) (shared ∙ same) ∙ are) all)
      ∙ ap (λ (l : List UnmatchedRow). flat_map (completed (map row_of l)) all) (sym (drop_more rest i d lt)) ∙ so_far

  pub combinations-all : (rest : List UnmatchedRow) (i : ℕ) (all : List (List Way)) (target : List (List CaseChoice)) → length rest ≤ i
      → flat_map (completed (map row_of (drop i rest))) all ≡ target → map (map (way_of bulk)) all ≡ target
  combinations-all rest i all target past so_far =
      sym (combinations-end all) ∙ ap (λ (l : List UnmatchedRow). flat_map (completed (map row_of l)) all) (sym (drop_all i rest past)) ∙ so_far
