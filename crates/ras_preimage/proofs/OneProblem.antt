-- The problem of a combination, from its parts.
use Rattle.std.proofs.Common.{◌≡◌, ℕ, ◌+◌, ◌<◌, ◌≤◌, List, [], ◌∷◌, ◌++◌, map, length, get_or, take, refl, sym, ◌∙◌, ap, arith, Option, Some, None, append_assoc}
use Rattle.std.specs.List.{flat_map}
use Rattle.std.proofs.lemmas.List.{map-append, length-map, get_or-map, take_more, take_all}
use Rattle.ras_logic.specs.declared.ids.RelId.{RelId}
use Rattle.ras_logic.specs.declared.ids.SortId.{SortId}
use Rattle.ras_logic.specs.declared.literal.Literal.{Literal}
use Rattle.ras_logic.specs.declared.problem.Problem.{Problem}
use Rattle.ras_logic.specs.Formulas.{replace}
use Rattle.ras_system.specs.declared.transition.Transition.{Transition}
use Rattle.ras_system.specs.Steps.{term_for_cell}
use Rattle.ras_system.specs.Preimages.{renumbered_row, unmatched, CaseChoice, RowSource, source_of_choice, row_sources, base_before, preimage_problem}
use Rattle.ras_preimage.specs.declared.ways.Way.{Way}
use Rattle.ras_preimage.specs.declared.unmatched_rows.UnmatchedRow.{UnmatchedRow}
use Rattle.ras_preimage.specs.declared.sources.Source.{Source}
use Rattle.ras_preimage.specs.Parts.{row_of, way_of, in_problem, source_of, problem_of}
use Rattle.std.proofs.lemmas.List.Folds.{flat_map-map}
use Rattle.ras_preimage.proofs.FlatMaps.{map-map}

-- the sources speak of no literals
same-sources : (t : Transition) (k : ℕ) (m : List (Option ℕ)) (ws : List CaseChoice) → row_sources t m (map (in_problem k) ws) ≡ row_sources t m ws
same-sources t k [] ws = refl
same-sources t k (Some p ∷ m) ws = ap (λ (l : List RowSource). record { number = p; term_for = term_for_cell t.updates p } ∷ l) (same-sources t k m ws)
same-sources t k (None ∷ m) [] = refl
same-sources t k (None ∷ m) (w ∷ ws) = ap (λ (l : List RowSource). source_of_choice (length t.rows) w ∷ l) (same-sources t k m ws)

module _ (t : Transition) (cube : Problem) (m : List (Option ℕ)) (disjunct : List Literal) (rest : List UnmatchedRow)
    (rest_is : map row_of rest ≡ unmatched (length t.rows) cube.rows m) where
  pub problem-is : (ways : List Way) (sources : List Source) (choice : List CaseChoice) → map (source_of t (length t.rows)) sources ≡ row_sources t m (map (way_of t.bulk) ways)
      → map (way_of t.bulk) ways ≡ map (in_problem (length t.rows)) choice → problem_of t cube rest disjunct ways sources ≡ preimage_problem t cube m disjunct choice
  problem-is ways sources choice are same =
      let k : ℕ = length t.rows in
      let rows : map (λ (u : UnmatchedRow). u.relation) rest ≡ map (λ (q : ℕ × RelId). q.1) (unmatched k cube.rows m) =
      sym (map-map (λ (q : ℕ × RelId). q.1) row_of rest) ∙ ap (map (λ (q : ℕ × RelId). q.1)) rest_is in
      let literals : flat_map (λ (w : Way). w.literals) ways ≡ flat_map (λ (w : CaseChoice). map (replace (renumbered_row k w.number)) w.literals) choice =
      sym (flat_map-map (λ (w : CaseChoice). w.literals) (way_of t.bulk) ways) ∙ ap (flat_map (λ (w : CaseChoice). w.literals)) same
      ∙ flat_map-map (λ (w : CaseChoice). w.literals) (in_problem k) choice in
      let all : map (source_of t k) sources ≡ row_sources t m choice = are ∙ ap (row_sources t m) same ∙ same-sources t k m choice in
      λ i. record {
        rows = t.rows ++ rows i;
        params = t.params;
        literals = disjunct ++ literals i ++ map (replace (base_before t (all i))) cube.literals;
      }

  -- a combination more
  pub combination-more : (combinations : List (List Way)) (choices : List (List CaseChoice)) (i : ℕ) (ways used shared : List Way) (sources kept : List Source) (item : Problem) (old all new : List Problem)
      → i < length combinations → ways ≡ get_or combinations i ways → used ≡ ways → shared ≡ ways
      → map (source_of t (length t.rows)) sources ≡ row_sources t m (map (way_of t.bulk) used) → kept ≡ sources
      → map (map (way_of t.bulk)) combinations ≡ map (map (in_problem (length t.rows))) choices
      → item ≡ problem_of t cube rest disjunct shared kept → new ≡ all ++ item ∷ [] → all ≡ old ++ map (preimage_problem t cube m disjunct) (take i choices)
      → new ≡ old ++ map (preimage_problem t cube m disjunct) (take (i + 1) choices)
  combination-more combinations choices i ways used shared sources kept item old all new lt read same_used same_shared are same_kept e is more so_far =
      let k : ℕ = length t.rows in
      let long : length combinations ≡ length choices = sym (length-map combinations (map (way_of t.bulk))) ∙ ap length e ∙ length-map choices (map (in_problem k)) in
      let within : i < length choices = omega (arith, long, lt) in
      let here : map (way_of t.bulk) ways ≡ map (in_problem k) (get_or choices i []) =
      ap (map (way_of t.bulk)) read ∙ sym (get_or-map (map (way_of t.bulk)) combinations i ways [] lt) ∙ ap (λ (l : List (List CaseChoice)). get_or l i []) e
      ∙ get_or-map (map (in_problem k)) choices i [] [] within in
      let problem : item ≡ preimage_problem t cube m disjunct (get_or choices i []) =
      is ∙ ap (λ (ws : List Way). problem_of t cube rest disjunct ws kept) same_shared ∙ ap (problem_of t cube rest disjunct ways) same_kept
      ∙ problem-is ways sources (get_or choices i []) (are ∙ ap (λ (ws : List Way). row_sources t m (map (way_of t.bulk) ws)) same_used) here in
      more ∙ ap (λ (l : List Problem). l ++ item ∷ []) so_far
      ∙ append_assoc old (map (preimage_problem t cube m disjunct) (take i choices)) (item ∷ [])
      ∙ ap (λ (p : Problem). old ++ (map (preimage_problem t cube m disjunct) (take i choices) ++ p ∷ [])) problem
      ∙ ap (λ (l : List Problem). old ++ l) (sym (map-append (preimage_problem t cube m disjunct) (take i choices) (get_or choices i [] ∷ [])))
      ∙ ap (λ (l : List (List CaseChoice)). old ++ map (preimage_problem t cube m disjunct) l) (sym (take_more choices i [] within))

  pub combinations-done : (combinations : List (List Way)) (choices : List (List CaseChoice)) (i : ℕ) (old all : List Problem) → length combinations ≤ i
      → map (map (way_of t.bulk)) combinations ≡ map (map (in_problem (length t.rows))) choices → all ≡ old ++ map (preimage_problem t cube m disjunct) (take i choices)
      → all ≡ old ++ map (preimage_problem t cube m disjunct) choices
  combinations-done combinations choices i old all past e so_far =
      let k : ℕ = length t.rows in
      let long : length combinations ≡ length choices = sym (length-map combinations (map (way_of t.bulk))) ∙ ap length e ∙ length-map choices (map (in_problem k)) in
      so_far ∙ ap (λ (l : List (List CaseChoice)). old ++ map (preimage_problem t cube m disjunct) l) (take_all i choices (omega (arith, long, past)))

-- a problem whose parts are so far as they should be
pub problem-parts : (t : Transition) (cube : Problem) (rest : List UnmatchedRow) (disjunct : List Literal) (ways : List Way) (sources : List Source) (k i : ℕ) (items first all : List Literal)
    (rows : List RelId) (params : List SortId) → rows ≡ t.rows ++ map (λ (u : UnmatchedRow). u.relation) rest → params ≡ t.params → first ≡ disjunct ++ flat_map (λ (w : Way). w.literals) ways
    → k ≡ length t.rows → items ≡ cube.literals → length items ≤ i → all ≡ first ++ map (replace (base_before t (map (source_of t k) sources))) (take i items)
    → ◌≡◌ {A = Problem} (record { rows = rows; params = params; literals = all }) (problem_of t cube rest disjunct ways sources)
problem-parts t cube rest disjunct ways sources k i items first all rows params rows_are params_are first_is count items_are past is =
    let literals : all ≡ (disjunct ++ flat_map (λ (w : Way). w.literals) ways) ++ map (replace (base_before t (map (source_of t (length t.rows)) sources))) cube.literals =
    is
    ∙ ap (λ (ls : List Literal). ls ++ map (replace (base_before t (map (source_of t k) sources))) (take i items)) first_is
    ∙ ap (λ (ls : List Literal). (disjunct ++ flat_map (λ (w : Way). w.literals) ways) ++ map (replace (base_before t (map (source_of t k) sources))) ls) (take_all i items past ∙ items_are)
    ∙ ap (λ (j : ℕ). (disjunct ++ flat_map (λ (w : Way). w.literals) ways) ++ map (replace (base_before t (map (source_of t j) sources))) cube.literals) count in
    λ j. record { rows = rows_are j; params = params_are j; literals = literals j }
