-- The formulas of a good evidence are an invariant.
use Rattle.std.proofs.Common.{◌≡◌, ℕ, ◌<◌, true, List, [], ◌∷◌, ◌++◌, map, length, get_or, refl, sym, ◌∙◌, ap, subst, arith, slice_get, Option, Some, None, All, flat_map, zero-add, ⊎_elim}
use Rattle.std.specs.List.{AllByRecursion, AllZip, enumerate_from}
use Rattle.std.specs.Option.{option_map_or}
use Rattle.std.proofs.lemmas.Option.{slice_get_within, slice_get-get_or}
use Rattle.std.proofs.lemmas.List.Elements.{All-from_recursion, recursion_from_All, All-nil}
use Rattle.std.proofs.lemmas.Bool.{eq-eqb}
use Rattle.ras_logic.specs.declared.ids.SortId.{SortId}
use Rattle.ras_logic.specs.declared.ids.ConstId.{ConstId}
use Rattle.ras_logic.specs.declared.ids.RelId.{RelId}
use Rattle.ras_logic.specs.declared.raw_db.RawDb.{RawDb}
use Rattle.ras_logic.specs.declared.term.Base.TheVariants.{Var, Cell}
use Rattle.ras_logic.specs.declared.literal.Literal.{Literal}
use Rattle.ras_logic.specs.declared.problem.Problem.{Problem}
use Rattle.ras_logic.specs.declared.tree.Tree.{Tree}
use Rattle.ras_logic.specs.Schemas.{IsSort}
use Rattle.ras_logic.specs.Shapes.{IsRelation}
use Rattle.ras_logic.specs.Databases.{IsDatabase}
use Rattle.ras_logic.specs.Terms.{constant_term, undef_term, sort_of}
use Rattle.ras_logic.specs.Formulas.{LiteralFits, Fits, IsCube}
use Rattle.ras_logic.specs.Truth.{holds, value}
use Rattle.ras_logic.proofs.Elements.{from_known}
use Rattle.ras_logic.proofs.TermSorts.{sort_of-undef, sort_of-constant}
use Rattle.ras_system.specs.declared.state.State.{State}
use Rattle.ras_system.specs.declared.choice.Choice.{Choice}
use Rattle.ras_system.specs.declared.transition.Transition.{Transition}
use Rattle.ras_system.specs.States.{IsState, IsInitial, AreRows, rows_of, cells_of, values_at, initial_value, Meets, MeetsAny}
use Rattle.ras_system.specs.Steps.{IsStep}
use Rattle.ras_system.specs.Systems.{SystemParts, IsSystem, IsTransition}
use Rattle.ras_system.specs.Invariants.{IsInvariant}
use Rattle.ras_system.specs.Preimages.{preimage}
use Rattle.ras_system.specs.Obligations.{initial_literal, initial_vars, undef_literal, undef_row, undef_cells, at_start, Obligation, with_formulas, preimages, start_obligations, obligations}
use Rattle.ras_system.specs.Evidence.{ClosesObligation, IsGoodSafe}
use Rattle.ras_backwards.proofs.Lists.{In, all-append, in_append_left, in_append_right, in_map, map_in, in_flat_map, flat_map_in, in_slice, in_all, all_of_each, enumerate_in, any_in}
use Rattle.ras_backwards.proofs.ChosenRows.{cells-at}
use Rattle.ras_backwards.proofs.After.{IsColumn, cell-sort}
use Rattle.ras_backwards.proofs.Assigned.{base-sorted}
use Rattle.ras_backwards.proofs.Exact.{exact}
use Rattle.ras_backwards.proofs.Fitting.{preimage-fits}
use Rattle.ras_backwards.proofs.Refuted.{closed-meets}

-- what stands beside an element
beside : {A B : Type 0} (R : A → B → Type 0) (xs : List A) (ys : List B) → AllZip R xs ys → (x : A) → In x xs → (y : B) × R x y
beside R [] ys z x i = absurd i
beside R (a ∷ xs) [] z x i = absurd z
beside R (a ∷ xs) (b ∷ ys) z x i = ⊎_elim (λ e. (b, subst (λ w. R w b) e z.0)) (λ r. beside R xs ys z.1 x r) i

none-met : (d : RawDb) (s : State) → MeetsAny d s [] → ⊥
none-met d s h = let lt = h.2 in omega (arith, lt)

-- a formula at the start: an initial state that meets it meets also what is said of variables and cells
module _ (system : SystemParts) (good : IsSystem system) (d : RawDb) (s : State) (init : IsInitial system d s) (f : Problem) (fit : Fits system.shape f) where
  initial-fits : (k : ℕ) (c : Option ConstId) → slice_get system.initial k ≡ Some c → LiteralFits system.shape f.rows f.params (initial_literal system k c)
  initial-fits k c known =
      let u : SortId = get_or system.shape.vars k (record { n = 0 }) in
      let lt : k < length system.shape.vars = rw (← good.initial_for_each) (slice_get_within system.initial k c known) in
      let var : slice_get system.shape.vars k ≡ Some u = slice_get-get_or system.shape.vars k (record { n = 0 }) lt in
      (u, base-sorted system.shape f.rows f.params (Var (record { n = k })) u var, right c known u var)
    where
      right : (c : Option ConstId) → slice_get system.initial k ≡ Some c → (u : SortId) → slice_get system.shape.vars k ≡ Some u
          → sort_of system.shape f.rows f.params (option_map_or constant_term c (undef_term u)) ≡ Some u
      right None known u var = sort_of-undef system.shape f.rows f.params u (from_known (IsSort system.shape.schema.sorts) system.shape.vars good.shape.vars k u var)
      right (Some c) known u var = sort_of-constant system.shape f.rows f.params c u (good.initial_sorts k c u known var)

  initial-holds : (chosen params : List ℕ) (k : ℕ) (c : Option ConstId) → slice_get system.initial k ≡ Some c
      → holds d (values_at s f.rows chosen params) (initial_literal system k c) ≡ true
  initial-holds chosen params k c known = eq-eqb (get_or s.vars k 0) _ (init.vars k c known ∙ right c)
    where
      right : (c : Option ConstId) → initial_value d c ≡ value d (values_at s f.rows chosen params) (option_map_or constant_term c (undef_term (get_or system.shape.vars k (record { n = 0 }))))
      right None = refl
      right (Some c) = refl

  vars-each : (P : Literal → Type 0) → ((k : ℕ) (c : Option ConstId) → slice_get system.initial k ≡ Some c → P (initial_literal system k c)) → AllByRecursion P (initial_vars system)
  vars-each P each = all_of_each P (initial_vars system) (λ l i.
      let m = map_in (λ (p : ℕ × Option ConstId). initial_literal system p.0 p.1) l (enumerate_from 0 system.initial) i in
      let e = enumerate_in system.initial 0 m.0 m.1 in
      subst P m.2 (each m.0.0 m.0.1 (subst (λ k. slice_get system.initial k ≡ Some m.0.1) (sym (e.1 ∙ zero-add e.0)) e.2)))

  cells-each : (P : Literal → Type 0)
      → ((row column : ℕ) (r : RelId) (u : SortId) → slice_get f.rows row ≡ Some r → slice_get (get_or system.shape.relations r.n []) column ≡ Some u → P (undef_literal row column u))
      → AllByRecursion P (undef_cells system f.rows)
  cells-each P each = all_of_each P (undef_cells system f.rows) (λ l i.
      let m = flat_map_in (λ (p : ℕ × RelId). undef_row system p.0 p.1) l (enumerate_from 0 f.rows) i in
      let e = enumerate_in f.rows 0 m.0 m.1 in
      let q = map_in (λ (p : ℕ × SortId). undef_literal m.0.0 p.0 p.1) l (enumerate_from 0 (get_or system.shape.relations m.0.1.n [])) m.2 in
      let g = enumerate_in (get_or system.shape.relations m.0.1.n []) 0 q.0 q.1 in
      subst P q.2 (each m.0.0 q.0.0 m.0.1 q.0.1
      (subst (λ k. slice_get f.rows k ≡ Some m.0.1) (sym (e.1 ∙ zero-add e.0)) e.2)
      (subst (λ k. slice_get (get_or system.shape.relations m.0.1.n []) k ≡ Some q.0.1) (sym (g.1 ∙ zero-add g.0)) g.2)))

  relation-of : (row : ℕ) (r : RelId) → slice_get f.rows row ≡ Some r → slice_get system.shape.relations r.n ≡ Some (get_or system.shape.relations r.n [])
  relation-of row r known = slice_get-get_or system.shape.relations r.n [] (from_known (IsRelation system.shape) f.rows fit.rows row r known)

  undef-fits : (row column : ℕ) (r : RelId) (u : SortId) → slice_get f.rows row ≡ Some r → slice_get (get_or system.shape.relations r.n []) column ≡ Some u
      → LiteralFits system.shape f.rows f.params (undef_literal row column u)
  undef-fits row column r u known in_row =
      let columns : List SortId = get_or system.shape.relations r.n [] in
      let is : IsColumn system.shape r column u = record { columns = columns; columns_are = relation-of row r known; known = in_row } in
      let sorts : All (IsSort system.shape.schema.sorts) columns = from_known (All (IsSort system.shape.schema.sorts)) system.shape.relations good.shape.columns r.n columns (relation-of row r known) in (
        u,
        base-sorted system.shape f.rows f.params (Cell row column) u (cell-sort system.shape f.rows f.params row column r u known is),
        sort_of-undef system.shape f.rows f.params u (from_known (IsSort system.shape.schema.sorts) columns sorts column u in_row),
      )

  undef-holds : (chosen params : List ℕ) → AreRows s f.rows chosen → (row column : ℕ) (r : RelId) (u : SortId) → slice_get f.rows row ≡ Some r
      → slice_get (get_or system.shape.relations r.n []) column ≡ Some u → holds d (values_at s f.rows chosen params) (undef_literal row column u) ≡ true
  undef-holds chosen params are row column r u known in_row =
      let relation : r.n < length system.shape.relations = from_known (IsRelation system.shape) f.rows fit.rows row r known in
      let there : r.n < length s.relations = rw init.state.as_many relation in
      let k : ℕ = get_or chosen row 0 in
      let cells : List ℕ = get_or (rows_of s r) k [] in
      let wide = (init.state.rows r relation k [] (are.each row r known)).as_many in
      let within : column < length cells = rw wide (slice_get_within (get_or system.shape.relations r.n []) column u in_row) in
      let zero_there : get_or cells column 0 ≡ 0 = init.cells r.n [] there k [] (are.each row r known) column 0 within in
      eq-eqb (get_or (get_or (cells_of s f.rows chosen) row []) column 0) 0
      (ap (λ (l : List ℕ). get_or l column 0) (cells-at s f.rows chosen row r are.as_many known) ∙ zero_there)

  start-fits : Fits system.shape (at_start system f)
  start-fits = record {
    rows = fit.rows;
    params = fit.params;
    literals =
        let Fit : Literal → Type 0 = LiteralFits system.shape f.rows f.params in
        All-from_recursion Fit ((f.literals ++ initial_vars system) ++ undef_cells system f.rows)
        (all-append Fit (f.literals ++ initial_vars system) (undef_cells system f.rows)
        (all-append Fit f.literals (initial_vars system) (recursion_from_All Fit f.literals fit.literals) (vars-each Fit initial-fits)) (cells-each Fit undef-fits));
  }

  start-meets : Meets d s f → Meets d s (at_start system f)
  start-meets m =
      let Holds : Literal → Type 0 = λ l. holds d (values_at s f.rows m.0 m.1) l ≡ true in (
        m.0,
        m.1,
        m.2,
        m.3,
        All-from_recursion Holds ((f.literals ++ initial_vars system) ++ undef_cells system f.rows)
            (all-append Holds (f.literals ++ initial_vars system) (undef_cells system f.rows)
            (all-append Holds f.literals (initial_vars system) (recursion_from_All Holds f.literals m.4) (vars-each Holds (initial-holds m.0 m.1)))
            (cells-each Holds (undef-holds m.0 m.1 m.2))),
      )

module _ (system : SystemParts) (formulas : List Problem) (trees : List Tree) (good : IsSystem system) (evidence : IsGoodSafe system formulas trees) where
  closed : (o : Obligation) → In o (obligations system formulas) → (t : Tree) × ClosesObligation system o t
  closed o i = beside (ClosesObligation system) (obligations system formulas) trees evidence.closed o i

  by_formulas : (p : Problem) → (t : Tree) × ClosesObligation system (with_formulas formulas p) t → (d : RawDb) (s : State) → IsDatabase system.shape.schema d → IsState system.shape d s
      → Fits system.shape p → Meets d s p → MeetsAny d s formulas
  by_formulas p t d s db st fit m = closed-meets system.shape d s good.shape db st p formulas t.0.nodes fit evidence.fit evidence.cubes t.1 m

  start : (d : RawDb) (s : State) → IsDatabase system.shape.schema d → IsInitial system d s → MeetsAny d s formulas → ⊥
  start d s db init h =
      let a = any_in (Meets d s) formulas h in
      let fit = in_all (Fits system.shape) formulas (recursion_from_All (Fits system.shape) formulas evidence.fit) a.0 a.1 in
      let o : Obligation = with_formulas [] (at_start system a.0) in
      let t = closed o (in_append_left o (start_obligations system formulas ++ map (with_formulas formulas) system.goals) (map (with_formulas formulas) (flat_map (preimages system) formulas))
      (in_append_left o (start_obligations system formulas) (map (with_formulas formulas) system.goals) (in_map (λ (f : Problem). with_formulas [] (at_start system f)) a.0 formulas a.1))) in
      none-met d s (closed-meets system.shape d s good.shape db init.state (at_start system a.0) [] t.0.nodes (start-fits system good d s init a.0 fit)
      (All-nil (Fits system.shape)) (All-nil IsCube) t.1 (start-meets system good d s init a.0 fit a.2))

  goals : (d : RawDb) (s : State) → IsDatabase system.shape.schema d → IsState system.shape d s → MeetsAny d s system.goals → MeetsAny d s formulas
  goals d s db st h =
      let a = any_in (Meets d s) system.goals h in
      let o : Obligation = with_formulas formulas a.0 in
      let t = closed o (in_append_left o (start_obligations system formulas ++ map (with_formulas formulas) system.goals) (map (with_formulas formulas) (flat_map (preimages system) formulas))
      (in_append_right o (start_obligations system formulas) (map (with_formulas formulas) system.goals) (in_map (with_formulas formulas) a.0 system.goals a.1))) in
      by_formulas a.0 t d s db st (in_all (Fits system.shape) system.goals (recursion_from_All (Fits system.shape) system.goals good.goals) a.0 a.1) a.2

  steps : (d : RawDb) (s : State) (c : Choice) (next : State) → IsDatabase system.shape.schema d → IsState system.shape d s → IsStep system d s c next
      → MeetsAny d next formulas → MeetsAny d s formulas
  steps d s c next db st step h =
      let a = any_in (Meets d next) formulas h in
      let f : Problem = a.0 in
      let t : Transition = step.0 in
      let is : IsTransition system.shape t = from_known (IsTransition system.shape) system.transitions good.transitions c.transition t step.1 in
      let fit = in_all (Fits system.shape) formulas (recursion_from_All (Fits system.shape) formulas evidence.fit) f a.1 in
      let flat = in_all IsCube formulas (recursion_from_All IsCube formulas evidence.cubes) f a.1 in
      let b = any_in (Meets d s) (preimage t f) ((exact system.shape d t is s st f fit flat).0 (record { choice = c; next = next; step = step.2; meets = a.2 })) in
      let o : Obligation = with_formulas formulas b.0 in
      let tree = closed o (in_append_right o (start_obligations system formulas ++ map (with_formulas formulas) system.goals) (map (with_formulas formulas) (flat_map (preimages system) formulas))
      (in_map (with_formulas formulas) b.0 (flat_map (preimages system) formulas)
      (in_flat_map (preimages system) f b.0 formulas a.1
      (in_flat_map (λ (u : Transition). preimage u f) t b.0 system.transitions (in_slice system.transitions c.transition t step.1) b.1)))) in
      by_formulas b.0 tree d s db st (preimage-fits system.shape t f b.0 is fit flat b.1) b.2

  pub good-invariant : IsInvariant system formulas
  good-invariant = record { initial = start; goals = goals; steps = steps }
