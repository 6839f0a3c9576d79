-- Steps and unsafe items are written as what denotes them.
use Rattle.std.proofs.Common.{◌≡◌, ◌≢◌, ℕ, suc, ◌+◌, List, [], ◌∷◌, ◌++◌, Bool, true, false, refl, sym, ◌∙◌, ap, map, flat_map, length, take, drop, codes, cond, arith}
use Rattle.std.specs.Prelude.{slice_get, Some, AllPairs, nat_eq}
use Rattle.ras_logic.specs.declared.ids.SortId.{SortId}
use Rattle.ras_logic.specs.declared.ids.RelId.{RelId}
use Rattle.ras_logic.specs.declared.problem.Problem.{Problem}
use Rattle.ras_logic.proofs.ByPlace.{map-at, map_from}
use Rattle.ras_system.specs.declared.bulk.Bulk.{Bulk}
use Rattle.ras_system.specs.declared.transition.Transition.{Transition}
use Rattle.ras_syntax.specs.Grammar as grammar
use Rattle.ras_syntax.specs.Grammar.{Text}
use Rattle.ras_names.specs.declared.names.RelNames.{RelNames}
use Rattle.ras_names.specs.declared.names.StepNames.{StepNames}
use Rattle.ras_names.specs.declared.names.Names.{Names}
use Rattle.ras_names.specs.Lists.{HasNumber, OneByOne}
use Rattle.ras_names.specs.FileParts.{disjuncts, cases}
use Rattle.ras_names.specs.FileNames.{names_of_rows, names_of_params, names_of_step, names_of_goal}
use Rattle.ras_names.specs.NewNames.{relation_names}
use Rattle.ras_names.specs.Steps as denotes
use Rattle.ras_names.specs.Steps.{RowDenotes, ParamDenotes, CaseDenotes, StepDenotes, GoalDenotes, UpdateDenotes, AssignmentDenotes}
use Rattle.ras_names.specs.Terms.{Scope}
use Rattle.ras_names.specs.Canonical.{row_line, param_line, guard_line, update_line, whole_case, each_lines, step_lines, goal_lines, line, inner_line, declared_text}
use Rattle.ras_names.proofs.Numbered.{AreNumbered}
use Rattle.ras_print.specs.Lookup.{name_at, name_of_relation, relation_at}
use Rattle.ras_print.specs.Items.{assignment_item, conjunction_item}
use Rattle.ras_print.specs.Printed.{numbered, row_text, param_text, update_text, when_line, front, group, first_relation, case_of, each_text, each_texts, step_text, goal_item, goal_text, goal_texts, first_rows}
use Rattle.ras_print.proofs.Sames.{two, same-map, same-flat, same-numbered, Parts, parts}
use Rattle.ras_print.proofs.SameTerms.{named, conjunction-same, disjuncts-same, update-same, assignment-same}

-- the next `each` has another relation
abbrev Apart : grammar.Each → List grammar.Each → Type 0
Apart e [] = Unit {0}
Apart e (f ∷ es) = e.relation ≢ f.relation

abbrev AreApart : List grammar.Each → Type 0
AreApart es = AllPairs (λ (e f : grammar.Each). e.relation ≢ f.relation) es

apart-head : (e : grammar.Each) (es : List grammar.Each) → AreApart (e ∷ es) → Apart e es
apart-head e [] h = tt
apart-head e (f ∷ es) h = h 0 1 e (omega arith) (omega arith)

apart-tail : (e : grammar.Each) (es : List grammar.Each) → AreApart (e ∷ es) → AreApart es
apart-tail e es h = λ i j d less within. h (suc i) (suc j) d (omega arith) (omega arith)

module _ (names : Names) where
  pub relation-same : (name : Text) (r : RelId) → HasNumber (relation_names names) name r.n → relation_at names r.n ≡ name
  relation-same name r h =
      let q = map_from (λ (x : RelNames). x.name) names.relations r.n name h in
      ap name_of_relation q.1 ∙ q.2

  row-same : (rows : List grammar.Row) (k : ℕ) (r : grammar.Row) (relation : RelId) → slice_get rows k ≡ Some r → RowDenotes names r relation
      → row_line r ≡ row_text names (names_of_rows rows) k relation
  row-same rows k r relation e h =
      let make : Text → Text → List ℕ = λ n x. row_line (record { name = n; relation = x }) in
      sym (ap (λ (n : Text). make n (relation_at names relation.n)) (named (names_of_rows rows) r.name k (map-at (λ (x : grammar.Row). x.name) rows k r e))
      ∙ ap (make r.name) (relation-same r.relation relation h))

  pub rows-same : (rows : List grammar.Row) (relations : List RelId) → OneByOne (RowDenotes names) rows relations
      → flat_map row_line rows ≡ numbered (row_text names (names_of_rows rows)) 0 relations
  rows-same rows relations h =
      same-numbered (RowDenotes names) row_line (row_text names (names_of_rows rows)) 0 rows relations
      (λ k r x e i d. row-same rows k r x e d ∙ (let z : k ≡ 0 + k = omega arith in ap (λ (n : ℕ). row_text names (names_of_rows rows) n x) z)) h

  param-same : (params : List grammar.Param) (k : ℕ) (p : grammar.Param) (sort : SortId) → slice_get params k ≡ Some p → ParamDenotes names p sort
      → param_line p ≡ param_text names (names_of_params params) k sort
  param-same params k p sort e h =
      let make : Text → Text → List ℕ = λ n x. param_line (record { name = n; sort = x }) in
      sym (ap (λ (n : Text). make n (name_at names.sorts sort.n)) (named (names_of_params params) p.name k (map-at (λ (x : grammar.Param). x.name) params k p e))
      ∙ ap (make p.name) (named names.sorts p.sort sort.n h))

  params-same : (params : List grammar.Param) (sorts : List SortId) → OneByOne (ParamDenotes names) params sorts
      → flat_map param_line params ≡ numbered (param_text names (names_of_params params)) 0 sorts
  params-same params sorts h =
      same-numbered (ParamDenotes names) param_line (param_text names (names_of_params params)) 0 params sorts
      (λ k p x e i d. param-same params k p x e d ∙ (let z : k ≡ 0 + k = omega arith in ap (λ (n : ℕ). param_text names (names_of_params params) n x) z)) h

  module _ (clear : AreNumbered (relation_names names)) (s : grammar.Step) (t : Transition) where
    abbrev Denotes : grammar.Each × grammar.Case → Bulk → Type 0
    Denotes = CaseDenotes names s t

    abbrev pairs : grammar.Each → List grammar.Case → List (grammar.Each × grammar.Case)
    pairs e cs = map (λ (c : grammar.Case). (e, c)) cs

    -- the cases of these `each`
    abbrev all_pairs : List grammar.Each → List (grammar.Each × grammar.Case)
    all_pairs es = flat_map (λ (e : grammar.Each). pairs e (cases e)) es

    case-same : (e : grammar.Each) (c : grammar.Case) (b : Bulk) → Denotes (e, c) b → whole_case c ≡ case_of names (names_of_step s) t e.row b
    case-same e c b h =
        let scope : Scope = denotes.each_scope names s e t b in
        let make : grammar.Conjunction → List grammar.Assignment → List ℕ = λ x y. whole_case (record { condition = x; assignments = y }) in
        sym (ap (λ (x : grammar.Conjunction). make x (map (assignment_item scope (length t.rows)) b.assigns)) (conjunction-same scope c.condition b.condition h.condition)
        ∙ ap (make c.condition) (same-map (AssignmentDenotes scope (length t.rows)) (assignment_item scope (length t.rows)) c.assignments b.assigns
        (λ k a x e i. assignment-same scope (length t.rows) a x i) h.assigns))

    cases-same : (e : grammar.Each) (cs : List grammar.Case) (bs : List Bulk) → OneByOne Denotes (pairs e cs) bs
        → flat_map whole_case cs ≡ flat_map (case_of names (names_of_step s) t e.row) bs
    cases-same e [] [] h = refl
    cases-same e [] (b ∷ bs) h = absurd h
    cases-same e (c ∷ cs) [] h = absurd h
    cases-same e (c ∷ cs) (b ∷ bs) h =
        two (whole_case c) (case_of names (names_of_step s) t e.row b) (flat_map whole_case cs) (flat_map (case_of names (names_of_step s) t e.row) bs)
        (case-same e c b h.0) (cases-same e cs bs h.1)

    same_number : (m n : ℕ) → m ≡ n → nat_eq m n ≡ true
    same_number m n e = grind arith

    other_number : (m n : ℕ) → m ≢ n → nat_eq m n ≡ false
    other_number m n e = grind arith

    -- the cases of the first `each` are those at the front of its relation
    front-same : (e : grammar.Each) (r : RelId) (cs : List grammar.Case) (es : List grammar.Each) (bs : List Bulk) → HasNumber (relation_names names) e.relation r.n
        → Apart e es → OneByOne Denotes (pairs e cs ++ all_pairs es) bs → front r bs ≡ length cs
    front-same e r [] [] [] k apart h = refl
    front-same e r [] [] (b ∷ bs) k apart h = absurd h
    front-same e r [] (f ∷ es) [] k apart h = refl
    front-same e r [] (f ∷ es) (b ∷ bs) k apart h =
        let named_f : HasNumber (relation_names names) f.relation b.relation.n = h.0.relation in
        let differ : e.relation ≢ f.relation = apart in
        let other : b.relation.n ≢ r.n = λ same. differ (some_text e.relation f.relation (sym k ∙ ap (slice_get (relation_names names)) (sym same) ∙ named_f)) in
        ap (λ (x : Bool). cond x (front r bs + 1) 0) (other_number b.relation.n r.n other)
      where
        some_text : (x y : Text) → Some x ≡ Some y → x ≡ y
        some_text x y q = cc
    front-same e r (c ∷ cs) es [] k apart h = absurd h
    front-same e r (c ∷ cs) es (b ∷ bs) k apart h =
        let same : b.relation.n ≡ r.n = clear e.relation b.relation.n r.n h.0.relation k in
        let rest : front r bs ≡ length cs = front-same e r cs es bs k apart h.1 in
        ap (λ (x : Bool). cond x (front r bs + 1) 0) (same_number b.relation.n r.n same) ∙ (let q : front r bs + 1 ≡ suc (length cs) = omega arith in q)

    group-same : (e : grammar.Each) (es : List grammar.Each) (bs : List Bulk) → Apart e es
        → OneByOne Denotes (pairs e (cases e) ++ all_pairs es) bs → group bs ≡ length (pairs e (cases e))
    group-same e es [] apart h = absurd h
    group-same e es (b ∷ bs) apart h =
        let rest : front b.relation bs ≡ length e.others = front-same e b.relation e.others es bs h.0.relation apart h.1 in
        let many : length (pairs e e.others) ≡ length e.others = length_pairs e.others in omega arith
      where
        length_pairs : (cs : List grammar.Case) → length (pairs e cs) ≡ length cs
        length_pairs [] = refl
        length_pairs (c ∷ cs) = ap suc (length_pairs cs)

    opening-same : (e : grammar.Each) (cs : List grammar.Case) (c : grammar.Case) (bs : List Bulk) → OneByOne Denotes (pairs e (c ∷ cs)) bs → first_relation names bs ≡ e.relation
    opening-same e cs c [] h = absurd h
    opening-same e cs c (b ∷ bs) h = relation-same e.relation b.relation h.0.relation

    each-same : (e : grammar.Each) (bs : List Bulk) → OneByOne Denotes (pairs e (cases e)) bs → each_lines e ≡ each_text names (names_of_step s) t e.row bs
    each-same e bs h =
        let open_line : Text → List ℕ = λ r. inner_line (codes "each " ++ (declared_text e.row r ++ codes " {")) in
        two (open_line e.relation) (open_line (first_relation names bs))
        (flat_map whole_case (cases e) ++ inner_line (codes "}")) (flat_map (case_of names (names_of_step s) t e.row) bs ++ inner_line (codes "}"))
        (ap open_line (sym (opening-same e e.others e.first bs h)))
        (ap (λ (x : List ℕ). x ++ inner_line (codes "}")) (cases-same e (cases e) bs h))

    eachs-same : (es : List grammar.Each) (bs : List Bulk) → AreApart es → OneByOne Denotes (all_pairs es) bs
        → flat_map each_lines es ≡ each_texts names (names_of_step s) t (map (λ (e : grammar.Each). e.row) es) bs
    eachs-same [] bs apart h = refl
    eachs-same (e ∷ es) bs apart h =
        let n : ℕ = length (pairs e (cases e)) in
        let p : Parts Denotes (pairs e (cases e)) (all_pairs es) bs = parts Denotes (pairs e (cases e)) (all_pairs es) bs h in
        let count : n ≡ group bs = sym (group-same e es bs (apart-head e es apart) h) in
        let rows : List Text = map (λ (f : grammar.Each). f.row) es in
        let text : ℕ → List ℕ = λ m. each_text names (names_of_step s) t e.row (take m bs) ++ each_texts names (names_of_step s) t rows (drop m bs) in
        two (each_lines e) (each_text names (names_of_step s) t e.row (take n bs)) (flat_map each_lines es) (each_texts names (names_of_step s) t rows (drop n bs))
        (each-same e (take n bs) p.front) (eachs-same es (drop n bs) (apart-tail e es apart) p.back)
        ∙ ap text count

    pub step-same : StepDenotes names s t → step_lines s ≡ step_text names (names_of_step s) t
    step-same h =
        let scope : Scope = denotes.step_scope names s t in
        let sn : StepNames = names_of_step s in
        let make : List ℕ → List ℕ → List ℕ → List ℕ → List ℕ → List ℕ =
        λ a b c d e. line (codes "step " ++ (s.name ++ codes " {")) ++ (a ++ (b ++ (c ++ (d ++ (e ++ line (codes "}")))))) in
        let rows = rows-same s.rows t.rows h.rows in
        let params = params-same s.params t.params h.params in
        let guard : guard_line s.guard ≡ when_line (map (conjunction_item scope) t.guard) = ap when_line (sym (disjuncts-same scope (disjuncts s.guard) t.guard h.guard)) in
        let updates : flat_map update_line s.updates ≡ flat_map (update_text scope) t.updates =
        same-flat (UpdateDenotes scope) update_line (update_text scope) s.updates t.updates (λ u x d. ap update_line (sym (update-same scope u x d))) h.updates in
        let eachs = eachs-same s.eachs t.bulk h.one_each h.bulk in
        ap (λ (a : List ℕ). make a (flat_map param_line s.params) (guard_line s.guard) (flat_map update_line s.updates) (flat_map each_lines s.eachs)) rows
        ∙ ap (λ (b : List ℕ). make (numbered (row_text names sn.rows) 0 t.rows) b (guard_line s.guard) (flat_map update_line s.updates) (flat_map each_lines s.eachs)) params
        ∙ ap (λ (c : List ℕ). make (numbered (row_text names sn.rows) 0 t.rows) (numbered (param_text names sn.params) 0 t.params) c (flat_map update_line s.updates) (flat_map each_lines s.eachs)) guard
        ∙ ap (λ (d : List ℕ). make (numbered (row_text names sn.rows) 0 t.rows) (numbered (param_text names sn.params) 0 t.params) (when_line (map (conjunction_item scope) t.guard)) d (flat_map each_lines s.eachs)) updates
        ∙ ap (make (numbered (row_text names sn.rows) 0 t.rows) (numbered (param_text names sn.params) 0 t.params) (when_line (map (conjunction_item scope) t.guard)) (flat_map (update_text scope) t.updates)) eachs

  abbrev GoalOf : grammar.Goal × grammar.Conjunction → Problem → Type 0
  GoalOf = GoalDenotes names

  abbrev goal_pairs : grammar.Goal → List grammar.Conjunction → List (grammar.Goal × grammar.Conjunction)
  goal_pairs g cs = map (λ (c : grammar.Conjunction). (g, c)) cs

  goal-items : (g : grammar.Goal) (cs : List grammar.Conjunction) (ps : List Problem) → OneByOne GoalOf (goal_pairs g cs) ps → map (goal_item names (names_of_goal g)) ps ≡ cs
  goal-items g [] [] h = refl
  goal-items g [] (p ∷ ps) h = absurd h
  goal-items g (c ∷ cs) [] h = absurd h
  goal-items g (c ∷ cs) (p ∷ ps) h =
      ap (λ (x : grammar.Conjunction). x ∷ map (goal_item names (names_of_goal g)) ps) (conjunction-same (denotes.goal_scope names g p) c p.literals h.0.literals)
      ∙ ap (λ (xs : List grammar.Conjunction). c ∷ xs) (goal-items g cs ps h.1)

  goal_rows : (g : grammar.Goal) (c : grammar.Conjunction) (cs : List grammar.Conjunction) (ps : List Problem) → OneByOne GoalOf (goal_pairs g (c ∷ cs)) ps
      → OneByOne (RowDenotes names) g.rows (first_rows ps)
  goal_rows g c cs [] h = absurd h
  goal_rows g c cs (p ∷ ps) h = h.0.rows

  goal-same : (g : grammar.Goal) (ps : List Problem) → OneByOne GoalOf (goal_pairs g (disjuncts g.guard)) ps → goal_lines g ≡ goal_text names (names_of_goal g) ps
  goal-same g ps h =
      let make : List ℕ → List grammar.Conjunction → List ℕ = λ a cs. line (codes "unsafe {") ++ (a ++ (when_line cs ++ line (codes "}"))) in
      ap (λ (a : List ℕ). make a (disjuncts g.guard)) (rows-same g.rows (first_rows ps) (goal_rows g g.guard.first g.guard.others ps h))
      ∙ ap (make (numbered (row_text names (names_of_rows g.rows)) 0 (first_rows ps))) (sym (goal-items g (disjuncts g.guard) ps h))

  length_goals : (g : grammar.Goal) (cs : List grammar.Conjunction) → length (goal_pairs g cs) ≡ length cs
  length_goals g [] = refl
  length_goals g (c ∷ cs) = ap suc (length_goals g cs)

  pub goals-same : (gs : List grammar.Goal) (ps : List Problem) → OneByOne GoalOf (flat_map (λ (g : grammar.Goal). goal_pairs g (disjuncts g.guard)) gs) ps
      → flat_map goal_lines gs ≡ goal_texts names (map names_of_goal gs) ps
  goals-same [] ps h = refl
  goals-same (g ∷ gs) ps h =
      let others = flat_map (λ (x : grammar.Goal). goal_pairs x (disjuncts x.guard)) gs in
      let n : ℕ = length (goal_pairs g (disjuncts g.guard)) in
      let p : Parts GoalOf (goal_pairs g (disjuncts g.guard)) others ps = parts GoalOf (goal_pairs g (disjuncts g.guard)) others ps h in
      let text : ℕ → List ℕ = λ m. goal_text names (names_of_goal g) (take m ps) ++ goal_texts names (map names_of_goal gs) (drop m ps) in
      two (goal_lines g) (goal_text names (names_of_goal g) (take n ps)) (flat_map goal_lines gs) (goal_texts names (map names_of_goal gs) (drop n ps))
      (goal-same g (take n ps) p.front) (goals-same gs (drop n ps) p.back)
      ∙ ap text (length_goals g (disjuncts g.guard))
