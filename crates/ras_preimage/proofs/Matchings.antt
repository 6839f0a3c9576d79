-- Matchings that are begun, and how they go on.
use Rattle.std.proofs.Common.{◌≡◌, ℕ, suc, ◌+◌, ◌<◌, Bool, true, false, not, ◌&&◌, cond, nat_eq, List, [], ◌∷◌, ◌++◌, map, length, get_or, take, drop, ◌≤◌, refl, sym, ◌∙◌, ap, arith, Option, Some, None, filter, append-nil, append_assoc, le_of_lt}
use Rattle.std.specs.List.{flat_map, list_any, enumerate_from}
use Rattle.std.proofs.lemmas.List.{map-append, map-id, take_more, length-take-le, drop_more, drop_all}
use Rattle.std.proofs.lemmas.List.Elements.{filter-append}
use Rattle.std.proofs.lemmas.Grind.{flat_map-append}
use Rattle.ras_logic.specs.declared.ids.RelId.{RelId}
use Rattle.ras_system.specs.Preimages.{free_row_params, matchings}
use Rattle.ras_preimage.specs.declared.matching.Matching.{Matching}
use Rattle.ras_preimage.specs.Parts.{matched_by, not_matched, next_matchings}
use Rattle.std.proofs.lemmas.List.Folds.{flat_map-map}
use Rattle.std.proofs.lemmas.List.Concat.{flat_map_single}
use Rattle.ras_preimage.proofs.FlatMaps.{map-flat_map, flat_map-flat_map, flat_map-same, map-map, map-same}

-- what a matching that is begun becomes with the rows that are left
abbrev pub complete : List RelId → List RelId → Matching → List (List (Option ℕ))
complete params rows x = map (λ (m : List (Option ℕ)). x.matched ++ m) (matchings params rows x.taken)

complete-step : (params rows : List RelId) (r : RelId) (x : Matching) → complete params (r ∷ rows) x ≡ flat_map (complete params rows) (next_matchings params r x)
complete-step params rows r x =
    let put : List (Option ℕ) → List (Option ℕ) = λ m. x.matched ++ m in
    let free : List ℕ = free_row_params params r x.taken in
    let named : ℕ → List (List (Option ℕ)) = λ p. map (λ (m : List (Option ℕ)). Some p ∷ m) (matchings params rows (p ∷ x.taken)) in
    let others : List (List (Option ℕ)) = map (λ (m : List (Option ℕ)). None ∷ m) (matchings params rows x.taken) in
    map-append put (flat_map named free) others
    ∙ ap (λ l. l ++ map put others) (map-flat_map put named free ∙ flat_map-same (λ p. map put (named p)) (λ p. complete params rows (matched_by x p)) by_parameter free
    ∙ sym (flat_map-map (complete params rows) (matched_by x) free))
    ∙ ap (λ l. flat_map (complete params rows) (map (matched_by x) free) ++ l) (unmatched_too ∙ sym (append-nil (complete params rows (not_matched x))))
    ∙ sym (flat_map-append (complete params rows) (map (matched_by x) free) (not_matched x ∷ []))
  where
    by_parameter : (p : ℕ) → map (λ (m : List (Option ℕ)). x.matched ++ m) (map (λ (m : List (Option ℕ)). Some p ∷ m) (matchings params rows (p ∷ x.taken))) ≡ complete params rows (matched_by x p)
    by_parameter p =
        map-map (λ (m : List (Option ℕ)). x.matched ++ m) (λ (m : List (Option ℕ)). Some p ∷ m) (matchings params rows (p ∷ x.taken))
        ∙ map-same (λ (m : List (Option ℕ)). x.matched ++ Some p ∷ m) (λ (m : List (Option ℕ)). (x.matched ++ Some p ∷ []) ++ m) (λ m. sym (append_assoc x.matched (Some p ∷ []) m)) (matchings params rows (p ∷ x.taken))

    unmatched_too : map (λ (m : List (Option ℕ)). x.matched ++ m) (map (λ (m : List (Option ℕ)). None ∷ m) (matchings params rows x.taken)) ≡ complete params rows (not_matched x)
    unmatched_too =
        map-map (λ (m : List (Option ℕ)). x.matched ++ m) (λ (m : List (Option ℕ)). None ∷ m) (matchings params rows x.taken)
        ∙ map-same (λ (m : List (Option ℕ)). x.matched ++ None ∷ m) (λ (m : List (Option ℕ)). (x.matched ++ None ∷ []) ++ m) (λ m. sym (append_assoc x.matched (None ∷ []) m)) (matchings params rows x.taken)

-- one row more for all of them
pub matchings-step : (params rows : List RelId) (r : RelId) (xs : List Matching)
    → flat_map (complete params (r ∷ rows)) xs ≡ flat_map (complete params rows) (flat_map (next_matchings params r) xs)
matchings-step params rows r xs =
    flat_map-same (complete params (r ∷ rows)) (λ x. flat_map (complete params rows) (next_matchings params r x)) (complete-step params rows r) xs
    ∙ sym (flat_map-flat_map (complete params rows) (next_matchings params r) xs)

pub matchings-end : (params : List RelId) (xs : List Matching) → flat_map (complete params []) xs ≡ map (λ (x : Matching). x.matched) xs
matchings-end params xs =
    flat_map-same (complete params []) (λ x. x.matched ∷ []) (λ x. ap (λ l. l ∷ []) (append-nil x.matched)) xs ∙ flat_map_single (λ (x : Matching). x.matched) xs

enumerate-append : {A : Type 0} (n : ℕ) (xs ys : List A) → enumerate_from n (xs ++ ys) ≡ enumerate_from n xs ++ enumerate_from (n + length xs) ys
enumerate-append n [] ys = ap (λ k. enumerate_from k ys) (let e : n ≡ n + 0 = omega arith in e)
enumerate-append n (x ∷ xs) ys = ap (λ l. (n, x) ∷ l) (enumerate-append (n + 1) xs ys
    ∙ ap (λ k. enumerate_from (n + 1) xs ++ enumerate_from k ys) (let e : n + 1 + length xs ≡ n + suc (length xs) = omega arith in e))

-- the row parameters that are looked at so far
pub free-more : (params : List RelId) (r : RelId) (taken : List ℕ) (k : ℕ) (d : RelId) → k < length params
    → free_row_params (take (k + 1) params) r taken
    ≡ free_row_params (take k params) r taken ++ cond (nat_eq (get_or params k d).n r.n && not (list_any (nat_eq k) taken)) (k ∷ []) []
free-more params r taken k d lt =
    let test : ℕ × RelId → Bool = λ p. nat_eq p.1.n r.n && not (list_any (nat_eq p.0) taken) in
    ap (λ (l : List RelId). free_row_params l r taken) (take_more params k d lt)
    ∙ ap (λ (l : List (ℕ × RelId)). map (λ (p : ℕ × RelId). p.0) (filter test l))
    (enumerate-append 0 (take k params) (get_or params k d ∷ [])
    ∙ ap (λ (j : ℕ). enumerate_from 0 (take k params) ++ (j, get_or params k d) ∷ []) (let e : 0 + length (take k params) ≡ k = omega (arith, length-take-le k params (le_of_lt lt)) in e))
    ∙ ap (λ (l : List (ℕ × RelId)). map (λ (p : ℕ × RelId). p.0) l) (filter-append test (enumerate_from 0 (take k params)) ((k, get_or params k d) ∷ []))
    ∙ map-append (λ (p : ℕ × RelId). p.0) (filter test (enumerate_from 0 (take k params))) (filter test ((k, get_or params k d) ∷ []))
    ∙ ap (λ (l : List ℕ). free_row_params (take k params) r taken ++ l) (one (test (k, get_or params k d)))
  where
    one : (b : Bool) → map (λ (p : ℕ × RelId). p.0) (cond b ((k, get_or params k d) ∷ []) []) ≡ cond b (k ∷ []) []
    one true = refl
    one false = refl

-- a row parameter more
pub parameter-more : (params : List RelId) (r : RelId) (x : Matching) (k : ℕ) (d : RelId) (t : Bool) (old all new : List Matching) → k < length params
    → (nat_eq (get_or params k d).n r.n && not (list_any (nat_eq k) x.taken)) ≡ t → new ≡ cond t (all ++ matched_by x k ∷ []) all
    → all ≡ old ++ map (matched_by x) (free_row_params (take k params) r x.taken) → new ≡ old ++ map (matched_by x) (free_row_params (take (k + 1) params) r x.taken)
parameter-more params r x k d t old all new lt test is so_far =
    let before : List ℕ = free_row_params (take k params) r x.taken in
    is ∙ go t
    ∙ ap (λ (l : List ℕ). old ++ map (matched_by x) l)
    (ap (λ (b : Bool). free_row_params (take k params) r x.taken ++ cond b (k ∷ []) []) (sym test) ∙ sym (free-more params r x.taken k d lt))
  where
    go : (b : Bool) → cond b (all ++ matched_by x k ∷ []) all ≡ old ++ map (matched_by x) (free_row_params (take k params) r x.taken ++ cond b (k ∷ []) [])
    go true =
        ap (λ (l : List Matching). l ++ matched_by x k ∷ []) so_far
        ∙ append_assoc old (map (matched_by x) (free_row_params (take k params) r x.taken)) (matched_by x k ∷ [])
        ∙ ap (λ (l : List Matching). old ++ l) (sym (map-append (matched_by x) (free_row_params (take k params) r x.taken) (k ∷ [])))
    go false = so_far ∙ ap (λ (l : List ℕ). old ++ map (matched_by x) l) (sym (append-nil (free_row_params (take k params) r x.taken)))

pub matchings-start : (params rows : List RelId) (all none : List Matching) (m : List (Option ℕ)) (t : List ℕ) → all ≡ none ++ record { matched = m; taken = t } ∷ [] → none ≡ [] → m ≡ []
    → t ≡ [] → flat_map (complete params rows) all ≡ matchings params rows []
matchings-start params rows all none m t is no_more no_rows no_taken =
    ap (flat_map (complete params rows)) (is ∙ ap (λ (l : List Matching). l ++ record { matched = m; taken = t } ∷ []) no_more
    ∙ ap (λ (l : List (Option ℕ)). record { matched = l; taken = t } ∷ []) no_rows ∙ ap (λ (l : List ℕ). record { matched = []; taken = l } ∷ []) no_taken)
    ∙ append-nil (map (λ (x : List (Option ℕ)). x) (matchings params rows [])) ∙ map-id (matchings params rows [])

pub matchings-more : (params rows : List RelId) (i : ℕ) (d : RelId) (all next : List Matching) (target : List (List (Option ℕ))) → i < length rows
    → next ≡ flat_map (next_matchings params (get_or rows i d)) all → flat_map (complete params (drop i rows)) all ≡ target → flat_map (complete params (drop (i + 1) rows)) next ≡ target
matchings-more params rows i d all next target lt is so_far =
    ap (flat_map (complete params (drop (i + 1) rows))) is ∙ sym (matchings-step params (drop (i + 1) rows) (get_or rows i d) all)
    ∙ ap (λ (l : List RelId). flat_map (complete params l) all) (sym (drop_more rows i d lt)) ∙ so_far

pub matchings-all : (params rows : List RelId) (i : ℕ) (all : List Matching) (target : List (List (Option ℕ))) → length rows ≤ i
    → flat_map (complete params (drop i rows)) all ≡ target → map (λ (x : Matching). x.matched) all ≡ target
matchings-all params rows i all target past so_far =
    sym (matchings-end params all) ∙ ap (λ (l : List RelId). flat_map (complete params l) all) (sym (drop_all i rows past)) ∙ so_far
