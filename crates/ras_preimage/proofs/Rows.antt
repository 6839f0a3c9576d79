-- The rows of a cube, one by one: what is unmatched, and the sources of its cells.
use Rattle.std.proofs.Common.{◌≡◌, ℕ, ◌+◌, ◌<◌, ◌≤◌, Bool, true, false, List, [], ◌∷◌, ◌++◌, map, length, get_or, drop, min, refl, sym, ◌∙◌, ap, subst, arith, Option, Some, None, append-nil, append_assoc, ◌⊎◌, inl, inr, ⊎_elim, nat_lt, ltb-true, ltb-false}
use Rattle.std.specs.Prelude.{is_some}
use Rattle.std.proofs.lemmas.List.{map-append, drop_more, drop_all}
use Rattle.ras_logic.specs.declared.ids.RelId.{RelId}
use Rattle.ras_system.specs.declared.transition.Transition.{Transition}
use Rattle.ras_system.specs.Preimages.{unmatched, CaseChoice, RowSource, row_sources}
use Rattle.ras_preimage.specs.declared.ways.Way.{Way}
use Rattle.ras_preimage.specs.declared.unmatched_rows.UnmatchedRow.{UnmatchedRow}
use Rattle.ras_preimage.specs.declared.sources.Source.{Source}
use Rattle.ras_preimage.specs.declared.sources.Source.TheVariants.{Parameter, Row}
use Rattle.ras_preimage.specs.Parts.{row_of, way_of, source_of}

-- no row is left
unmatched-nothing : (n : ℕ) (rows : List RelId) (m : List (Option ℕ)) (i : ℕ) → min (length rows) (length m) ≤ i → unmatched n (drop i rows) (drop i m) ≡ []
unmatched-nothing n rows m i past = ⊎_elim
    (λ h. ap (λ (l : List RelId). unmatched n l (drop i m)) (drop_all i rows h))
    (λ h. ap (λ (l : List (Option ℕ)). unmatched n (drop i rows) l) (drop_all i m h) ∙ no_more (drop i rows))
    (which (length rows) (length m) past)
  where
    no_more : (rs : List RelId) → unmatched n rs [] ≡ []
    no_more [] = refl
    no_more (r ∷ rs) = refl

    which : (a b : ℕ) → min a b ≤ i → (a ≤ i) ⊎ (b ≤ i)
    which a b h = go (nat_lt a b) refl
      where
        go : (t : Bool) → nat_lt a b ≡ t → (a ≤ i) ⊎ (b ≤ i)
        go true e = inl (let lt = ltb-true a b e in omega (arith, h, lt))
        go false e = inr (let le = ltb-false a b e in omega (arith, h, le))

-- a row that is matched, and one that is not
module _ (rows : List RelId) (m : List (Option ℕ)) (i : ℕ) (d : RelId) (e : Option ℕ) (first : i < length rows) (second : i < length m) where
  unmatched-step : (n : ℕ) → unmatched n (drop i rows) (drop i m) ≡ unmatched n (get_or rows i d ∷ drop (i + 1) rows) (get_or m i e ∷ drop (i + 1) m)
  unmatched-step n =
      ap (λ (l : List RelId). unmatched n l (drop i m)) (drop_more rows i d first)
      ∙ ap (λ (l : List (Option ℕ)). unmatched n (get_or rows i d ∷ drop (i + 1) rows) l) (drop_more m i e second)

  pub rest-matched : (n next : ℕ) (rest new : List UnmatchedRow) (target : List (ℕ × RelId)) → is_some (get_or m i e) ≡ true → new ≡ rest → next ≡ n
      → map row_of rest ++ unmatched n (drop i rows) (drop i m) ≡ target → map row_of new ++ unmatched next (drop (i + 1) rows) (drop (i + 1) m) ≡ target
  rest-matched n next rest new target some is same so_far =
      ap (λ (l : List UnmatchedRow). map row_of l ++ unmatched next (drop (i + 1) rows) (drop (i + 1) m)) is
      ∙ ap (λ (k : ℕ). map row_of rest ++ unmatched k (drop (i + 1) rows) (drop (i + 1) m)) same
      ∙ ap (λ (l : List (ℕ × RelId)). map row_of rest ++ l) (sym (unmatched-step n ∙ go (get_or m i e) some)) ∙ so_far
    where
      go : (o : Option ℕ) → is_some o ≡ true → unmatched n (get_or rows i d ∷ drop (i + 1) rows) (o ∷ drop (i + 1) m) ≡ unmatched n (drop (i + 1) rows) (drop (i + 1) m)
      go None h = absurd (cc)
      go (Some p) h = refl

  pub rest-unmatched : (n next : ℕ) (item : UnmatchedRow) (rest new : List UnmatchedRow) (target : List (ℕ × RelId)) → is_some (get_or m i e) ≡ false → new ≡ rest ++ item ∷ []
      → item.number ≡ n → item.relation ≡ get_or rows i d → next ≡ n + 1
      → map row_of rest ++ unmatched n (drop i rows) (drop i m) ≡ target → map row_of new ++ unmatched next (drop (i + 1) rows) (drop (i + 1) m) ≡ target
  rest-unmatched n next item rest new target none is number relation later so_far =
      ap (λ (l : List UnmatchedRow). map row_of l ++ unmatched next (drop (i + 1) rows) (drop (i + 1) m)) is
      ∙ ap (λ (k : ℕ). map row_of (rest ++ item ∷ []) ++ unmatched k (drop (i + 1) rows) (drop (i + 1) m)) later
      ∙ ap (λ (l : List (ℕ × RelId)). l ++ unmatched (n + 1) (drop (i + 1) rows) (drop (i + 1) m)) (map-append row_of rest (item ∷ []))
      ∙ append_assoc (map row_of rest) (row_of item ∷ []) (unmatched (n + 1) (drop (i + 1) rows) (drop (i + 1) m))
      ∙ ap (λ (q : ℕ × RelId). map row_of rest ++ q ∷ unmatched (n + 1) (drop (i + 1) rows) (drop (i + 1) m)) (λ j. (number j, relation j))
      ∙ ap (λ (l : List (ℕ × RelId)). map row_of rest ++ l) (sym (unmatched-step n ∙ go (get_or m i e) none)) ∙ so_far
    where
      go : (o : Option ℕ) → is_some o ≡ false
          → unmatched n (get_or rows i d ∷ drop (i + 1) rows) (o ∷ drop (i + 1) m) ≡ (n, get_or rows i d) ∷ unmatched (n + 1) (drop (i + 1) rows) (drop (i + 1) m)
      go None h = refl
      go (Some p) h = absurd (cc)

pub rest-all : (n : ℕ) (rows : List RelId) (m : List (Option ℕ)) (i count : ℕ) (rest : List UnmatchedRow) (target : List (ℕ × RelId)) → count ≡ min (length rows) (length m) → count ≤ i
    → map row_of rest ++ unmatched n (drop i rows) (drop i m) ≡ target → map row_of rest ≡ target
rest-all n rows m i count rest target is past so_far =
    sym (append-nil (map row_of rest)) ∙ ap (λ (l : List (ℕ × RelId)). map row_of rest ++ l) (sym (unmatched-nothing n rows m i (subst (λ c. c ≤ i) is past))) ∙ so_far

-- a source more
module _ (t : Transition) (m : List (Option ℕ)) (i : ℕ) (below : i < length m) (ways : List Way) where
  sources-step : (all new : List Source) (item : Source) (o : Option ℕ) (ws later : List CaseChoice) (target : List RowSource) → get_or m i None ≡ o
      → row_sources t (o ∷ drop (i + 1) m) ws ≡ source_of t (length t.rows) item ∷ row_sources t (drop (i + 1) m) later → new ≡ all ++ item ∷ []
      → map (source_of t (length t.rows)) all ++ row_sources t (drop i m) ws ≡ target → map (source_of t (length t.rows)) new ++ row_sources t (drop (i + 1) m) later ≡ target
  sources-step all new item o ws later target here goes is so_far =
      ap (λ (l : List Source). map (source_of t (length t.rows)) l ++ row_sources t (drop (i + 1) m) later) is
      ∙ ap (λ (l : List RowSource). l ++ row_sources t (drop (i + 1) m) later) (map-append (source_of t (length t.rows)) all (item ∷ []))
      ∙ append_assoc (map (source_of t (length t.rows)) all) (source_of t (length t.rows) item ∷ []) (row_sources t (drop (i + 1) m) later)
      ∙ ap (λ (l : List RowSource). map (source_of t (length t.rows)) all ++ l)
      (sym goes ∙ ap (λ (x : Option ℕ). row_sources t (x ∷ drop (i + 1) m) ws) (sym here) ∙ ap (λ (l : List (Option ℕ)). row_sources t l ws) (sym (drop_more m i None below)))
      ∙ so_far

  pub sources-named : (p place later : ℕ) (all new : List Source) (target : List RowSource) → get_or m i None ≡ Some p → later ≡ place → new ≡ all ++ Parameter p ∷ []
      → map (source_of t (length t.rows)) all ++ row_sources t (drop i m) (map (way_of t.bulk) (drop place ways)) ≡ target
      → map (source_of t (length t.rows)) new ++ row_sources t (drop (i + 1) m) (map (way_of t.bulk) (drop later ways)) ≡ target
  sources-named p place later all new target here same is so_far =
      ap (λ (k : ℕ). map (source_of t (length t.rows)) new ++ row_sources t (drop (i + 1) m) (map (way_of t.bulk) (drop k ways))) same ∙
      sources-step all new (Parameter p) (Some p) (map (way_of t.bulk) (drop place ways)) (map (way_of t.bulk) (drop place ways)) target here refl is so_far

  pub sources-row : (place later : ℕ) (w used : Way) (all new : List Source) (target : List RowSource) → get_or m i None ≡ None → place < length ways → w ≡ get_or ways place w → used ≡ w
      → later ≡ place + 1 → new ≡ all ++ Row used.number used.case ∷ []
      → map (source_of t (length t.rows)) all ++ row_sources t (drop i m) (map (way_of t.bulk) (drop place ways)) ≡ target
      → map (source_of t (length t.rows)) new ++ row_sources t (drop (i + 1) m) (map (way_of t.bulk) (drop later ways)) ≡ target
  sources-row place later w used all new target here within read same after is so_far =
      let at : drop place ways ≡ w ∷ drop (place + 1) ways = drop_more ways place w within ∙ ap (λ (x : Way). x ∷ drop (place + 1) ways) (sym read) in
      ap (λ (k : ℕ). map (source_of t (length t.rows)) new ++ row_sources t (drop (i + 1) m) (map (way_of t.bulk) (drop k ways))) after
      ∙ sources-step all new (Row w.number w.case) None (way_of t.bulk w ∷ map (way_of t.bulk) (drop (place + 1) ways)) (map (way_of t.bulk) (drop (place + 1) ways)) target here refl
      (is ∙ ap (λ (x : Way). all ++ Row x.number x.case ∷ []) same)
      (ap (λ (l : List Way). map (source_of t (length t.rows)) all ++ row_sources t (drop i m) (map (way_of t.bulk) l)) (sym at) ∙ so_far)
