-- The ways of an unmatched row, case by case.
use Rattle.std.proofs.Common.{◌≡◌, ℕ, ◌+◌, ◌<◌, Bool, true, false, cond, nat_eq, List, [], ◌∷◌, ◌++◌, map, length, get_or, take, drop, refl, sym, ◌∙◌, ap, slice_get, Option, Some, None, append-nil, append_assoc}
use Rattle.std.specs.List.{flat_map}
use Rattle.std.proofs.lemmas.List.{map-append, at_drop_more}
use Rattle.std.proofs.lemmas.List.Elements.{filter_more}
use Rattle.std.proofs.lemmas.Option.{slice_get-get_or}
use Rattle.ras_logic.specs.declared.ids.RelId.{RelId}
use Rattle.ras_logic.specs.declared.literal.Literal.{Literal}
use Rattle.ras_logic.specs.Formulas.{replace, negated}
use Rattle.ras_system.specs.declared.bulk.Bulk.{Bulk}
use Rattle.ras_system.specs.Preimages.{renumbered_row, CaseChoice, refusals, case_choices_from}
use Rattle.ras_backwards.proofs.Replaced.{replace-negated}
use Rattle.ras_backwards.proofs.Combinations.{cases_of}
use Rattle.ras_preimage.specs.declared.ways.Way.{Way}
use Rattle.ras_preimage.specs.Parts.{way_of, in_problem, refused_too, taken, taking_none}
use Rattle.std.proofs.lemmas.List.Folds.{flat_map-map}
use Rattle.ras_preimage.proofs.FlatMaps.{map-flat_map, flat_map-flat_map, flat_map-same, map-map, map-same}

-- the refusals of one case more
refusals-push : (bs : List Bulk) (b : Bulk) → refusals (bs ++ b ∷ []) ≡ flat_map (λ (ls : List Literal). map (λ (l : Literal). ls ++ negated l ∷ []) b.condition) (refusals bs)
refusals-push [] b = single b.condition ∙ sym (append-nil (map (λ (l : Literal). negated l ∷ []) b.condition))
  where
    single : (condition : List Literal) → flat_map (λ (l : Literal). (negated l ∷ []) ∷ []) condition ≡ map (λ (l : Literal). negated l ∷ []) condition
    single [] = refl
    single (l ∷ ls) = ap (λ r. (negated l ∷ []) ∷ r) (single ls)
refusals-push (c ∷ bs) b =
    let more : List Literal → List (List Literal) = λ ls. map (λ (l : Literal). ls ++ negated l ∷ []) b.condition in
    flat_map-same (λ (l : Literal). map (λ (ls : List Literal). negated l ∷ ls) (refusals (bs ++ b ∷ []))) (λ (l : Literal). flat_map more (map (λ (ls : List Literal). negated l ∷ ls) (refusals bs)))
    (λ l. ap (map (λ (ls : List Literal). negated l ∷ ls)) (refusals-push bs b) ∙ map-flat_map (λ (ls : List Literal). negated l ∷ ls) more (refusals bs)
    ∙ flat_map-same (λ ls. map (λ (x : List Literal). negated l ∷ x) (more ls)) (λ ls. more (negated l ∷ ls)) (λ ls. map-map (λ (x : List Literal). negated l ∷ x) (λ (k : Literal). ls ++ negated k ∷ []) b.condition) (refusals bs)
    ∙ sym (flat_map-map more (λ (ls : List Literal). negated l ∷ ls) (refusals bs))) c.condition
    ∙ sym (flat_map-flat_map more (λ (l : Literal). map (λ (ls : List Literal). negated l ∷ ls) (refusals bs)) c.condition)

module _ (from number : ℕ) where
  in_row : Literal → Literal
  in_row l = replace (renumbered_row from number) l

  -- the same, as the problem has them
  refused-more : (bs : List Bulk) (b : Bulk)
      → flat_map (refused_too from number b.condition) (map (map (replace (renumbered_row from number))) (refusals bs)) ≡ map (map (replace (renumbered_row from number))) (refusals (bs ++ b ∷ []))
  refused-more bs b =
      let f : Literal → Literal = replace (renumbered_row from number) in
      let more : List Literal → List (List Literal) = λ ls. map (λ (l : Literal). ls ++ negated l ∷ []) b.condition in
      flat_map-map (refused_too from number b.condition) (map f) (refusals bs)
      ∙ flat_map-same (λ ls. refused_too from number b.condition (map f ls)) (λ ls. map (map f) (more ls))
      (λ ls. map-same (λ (l : Literal). map f ls ++ negated (f l) ∷ []) (λ (l : Literal). map f (ls ++ negated l ∷ []))
      (λ l. ap (λ (k : Literal). map f ls ++ k ∷ []) (sym (replace-negated (renumbered_row from number) l)) ∙ sym (map-append f ls (negated l ∷ []))) b.condition
      ∙ sym (map-map (map f) (λ (l : Literal). ls ++ negated l ∷ []) b.condition)) (refusals bs)
      ∙ sym (map-flat_map (map f) more (refusals bs))
      ∙ ap (map (map f)) (sym (refusals-push bs b))

  module _ (bulk : List Bulk) where
    -- the ways that take a case, with its number
    taken-ways : (i : ℕ) (b : Bulk) (bs : List Bulk) → slice_get bulk i ≡ Some b
        → map (way_of bulk) (map (taken from number i b.condition) (map (map (replace (renumbered_row from number))) (refusals bs)))
        ≡ map (in_problem from) (map (λ (ls : List Literal). record { number = number; takes = Some b; literals = ls ++ b.condition }) (refusals bs))
    taken-ways i b bs known =
        let f : Literal → Literal = replace (renumbered_row from number) in
        ap (map (way_of bulk)) (map-map (taken from number i b.condition) (map f) (refusals bs))
        ∙ map-map (way_of bulk) (λ (ls : List Literal). taken from number i b.condition (map f ls)) (refusals bs)
        ∙ map-same (λ (ls : List Literal). way_of bulk (taken from number i b.condition (map f ls))) (λ (ls : List Literal). in_problem from (record { number = number; takes = Some b; literals = ls ++ b.condition }))
        (λ ls. ap (λ (o : Option Bulk). record { number = number; takes = o; literals = map f ls ++ map f b.condition }) known
        ∙ ap (λ (x : List Literal). record { number = number; takes = Some b; literals = x }) (sym (map-append f ls b.condition))) (refusals bs)
        ∙ sym (map-map (in_problem from) (λ (ls : List Literal). record { number = number; takes = Some b; literals = ls ++ b.condition }) (refusals bs))

    none-ways : (bs : List Bulk) → map (way_of bulk) (map (taking_none number) (map (map (replace (renumbered_row from number))) (refusals bs))) ≡ map (in_problem from) (case_choices_from number bs [])
    none-ways bs =
        let f : Literal → Literal = replace (renumbered_row from number) in
        ap (map (way_of bulk)) (map-map (taking_none number) (map f) (refusals bs))
        ∙ map-map (way_of bulk) (λ (ls : List Literal). taking_none number (map f ls)) (refusals bs)
        ∙ sym (map-map (in_problem from) (λ (ls : List Literal). record { number = number; takes = None; literals = ls }) (refusals bs))

    -- one case more
    pub case-before : (r : RelId) (i : ℕ) (b : Bulk) (before after : List (List Literal)) → i < length bulk → b ≡ get_or bulk i b
        → before ≡ map (map (replace (renumbered_row from number))) (refusals (cases_of (take i bulk) r))
        → after ≡ cond (nat_eq b.relation.n r.n) (flat_map (refused_too from number b.condition) before) before
        → after ≡ map (map (replace (renumbered_row from number))) (refusals (cases_of (take (i + 1) bulk) r))
    case-before r i b before after lt read was is =
        let more = filter_more (λ (c : Bulk). nat_eq c.relation.n r.n) bulk i b lt in
        let here : get_or bulk i b ≡ b = sym read in
        let cases : cases_of (take (i + 1) bulk) r ≡ cases_of (take i bulk) r ++ cond (nat_eq b.relation.n r.n) (b ∷ []) [] =
        more ∙ ap (λ (c : Bulk). cases_of (take i bulk) r ++ cond (nat_eq c.relation.n r.n) (c ∷ []) []) here in
        is ∙ go (nat_eq b.relation.n r.n) ∙ ap (λ (cs : List Bulk). map (map (replace (renumbered_row from number))) (refusals cs)) (sym cases)
      where
        go : (t : Bool) → cond t (flat_map (refused_too from number b.condition) before) before ≡ map (map (replace (renumbered_row from number))) (refusals (cases_of (take i bulk) r ++ cond t (b ∷ []) []))
        go true = ap (flat_map (refused_too from number b.condition)) was ∙ refused-more (cases_of (take i bulk) r) b
        go false = was ∙ ap (λ (cs : List Bulk). map (map (replace (renumbered_row from number))) (refusals cs)) (sym (append-nil (cases_of (take i bulk) r)))

    pub case-ways : (r : RelId) (i : ℕ) (b : Bulk) (before : List (List Literal)) (ways more : List Way) → i < length bulk → b ≡ get_or bulk i b
        → before ≡ map (map (replace (renumbered_row from number))) (refusals (cases_of (take i bulk) r))
        → more ≡ ways ++ cond (nat_eq b.relation.n r.n) (map (taken from number i b.condition) before) []
        → map (way_of bulk) ways ++ map (in_problem from) (case_choices_from number (cases_of (take i bulk) r) (cases_of (drop i bulk) r)) ≡ map (in_problem from) (case_choices_from number [] (cases_of bulk r))
        → map (way_of bulk) more ++ map (in_problem from) (case_choices_from number (cases_of (take (i + 1) bulk) r) (cases_of (drop (i + 1) bulk) r)) ≡ map (in_problem from) (case_choices_from number [] (cases_of bulk r))
    case-ways r i b before ways more lt read was is so_far =
        let extra = filter_more (λ (c : Bulk). nat_eq c.relation.n r.n) bulk i b lt in
        let here : get_or bulk i b ≡ b = sym read in
        let cases : cases_of (take (i + 1) bulk) r ≡ cases_of (take i bulk) r ++ cond (nat_eq b.relation.n r.n) (b ∷ []) [] =
        extra ∙ ap (λ (c : Bulk). cases_of (take i bulk) r ++ cond (nat_eq c.relation.n r.n) (c ∷ []) []) here in
        let rest : cases_of (drop i bulk) r ≡ cond (nat_eq b.relation.n r.n) (b ∷ cases_of (drop (i + 1) bulk) r) (cases_of (drop (i + 1) bulk) r) =
        at_drop_more (λ (cs : List Bulk). cases_of cs r) bulk i b lt ∙ ap (λ (c : Bulk). cases_of (c ∷ drop (i + 1) bulk) r) here in
        let known : slice_get bulk i ≡ Some b = slice_get-get_or bulk i b lt ∙ ap Some here in
        ap (λ (ws : List Way). map (way_of bulk) ws ++ map (in_problem from) (case_choices_from number (cases_of (take (i + 1) bulk) r) (cases_of (drop (i + 1) bulk) r))) is
        ∙ ap (λ (cs : List Bulk). map (way_of bulk) (ways ++ cond (nat_eq b.relation.n r.n) (map (taken from number i b.condition) before) []) ++ map (in_problem from) (case_choices_from number cs (cases_of (drop (i + 1) bulk) r))) cases
        ∙ go (nat_eq b.relation.n r.n) known
        ∙ ap (λ (cs : List Bulk). map (way_of bulk) ways ++ map (in_problem from) (case_choices_from number (cases_of (take i bulk) r) cs)) (sym rest)
        ∙ so_far
      where
        go : (t : Bool) → slice_get bulk i ≡ Some b
            → map (way_of bulk) (ways ++ cond t (map (taken from number i b.condition) before) []) ++ map (in_problem from) (case_choices_from number (cases_of (take i bulk) r ++ cond t (b ∷ []) []) (cases_of (drop (i + 1) bulk) r))
            ≡ map (way_of bulk) ways ++ map (in_problem from) (case_choices_from number (cases_of (take i bulk) r) (cond t (b ∷ cases_of (drop (i + 1) bulk) r) (cases_of (drop (i + 1) bulk) r)))
        go true known =
            let cs : List Bulk = cases_of (take i bulk) r in
            let later : List Bulk = cases_of (drop (i + 1) bulk) r in
            let mine : List CaseChoice = map (λ (ls : List Literal). record { number = number; takes = Some b; literals = ls ++ b.condition }) (refusals cs) in
            ap (λ (l : List CaseChoice). l ++ map (in_problem from) (case_choices_from number (cs ++ b ∷ []) later))
            (map-append (way_of bulk) ways (map (taken from number i b.condition) before)
            ∙ ap (λ (l : List CaseChoice). map (way_of bulk) ways ++ l) (ap (λ (x : List (List Literal)). map (way_of bulk) (map (taken from number i b.condition) x)) was ∙ taken-ways i b cs known))
            ∙ append_assoc (map (way_of bulk) ways) (map (in_problem from) mine) (map (in_problem from) (case_choices_from number (cs ++ b ∷ []) later))
            ∙ ap (λ (l : List CaseChoice). map (way_of bulk) ways ++ l) (sym (map-append (in_problem from) mine (case_choices_from number (cs ++ b ∷ []) later)))
        go false known =
            ap (λ (l : List Way). map (way_of bulk) l ++ map (in_problem from) (case_choices_from number (cases_of (take i bulk) r ++ []) (cases_of (drop (i + 1) bulk) r))) (append-nil ways)
            ∙ ap (λ (cs : List Bulk). map (way_of bulk) ways ++ map (in_problem from) (case_choices_from number cs (cases_of (drop (i + 1) bulk) r))) (append-nil (cases_of (take i bulk) r))

    -- and none at last
    pub ways-end : (r : RelId) (before : List (List Literal)) (ways : List Way) → before ≡ map (map (replace (renumbered_row from number))) (refusals (cases_of bulk r))
        → map (way_of bulk) ways ++ map (in_problem from) (case_choices_from number (cases_of bulk r) []) ≡ map (in_problem from) (case_choices_from number [] (cases_of bulk r))
        → map (way_of bulk) (ways ++ map (taking_none number) before) ≡ map (in_problem from) (case_choices_from number [] (cases_of bulk r))
    ways-end r before ways was so_far =
        map-append (way_of bulk) ways (map (taking_none number) before)
        ∙ ap (λ (l : List CaseChoice). map (way_of bulk) ways ++ l) (ap (λ (x : List (List Literal)). map (way_of bulk) (map (taking_none number) x)) was ∙ none-ways (cases_of bulk r))
        ∙ so_far
