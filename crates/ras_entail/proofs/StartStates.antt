-- What satisfies the premise that a formula holds of an initial state, and initial states that meet a formula.
use Rattle.std.proofs.Common.{◌≡◌, ℕ, ◌+◌, ◌<◌, List, [], ◌++◌, length, get_or, refl, sym, ◌∙◌, ap, subst, arith}
use Rattle.std.specs.Prelude.{slice_get, Option, Some, None, All, IsTrue}
use Rattle.std.specs.List.{enumerate_from}
use Rattle.std.specs.Option.{option_map_or}
use Rattle.std.proofs.lemmas.Bool.{eqb-true, eq-eqb}
use Rattle.std.proofs.lemmas.List.Elements.{All-append, All-map, All-weaker}
use Rattle.std.proofs.lemmas.Option.{slice_get_within, slice_get-get_or}
use Rattle.ras_logic.specs.declared.ids.SortId.{SortId}
use Rattle.ras_logic.specs.declared.ids.RelId.{RelId}
use Rattle.ras_logic.specs.declared.ids.ConstId.{ConstId}
use Rattle.ras_logic.specs.declared.raw_db.RawDb.{RawDb}
use Rattle.ras_logic.specs.declared.values.Values.{Values}
use Rattle.ras_logic.specs.declared.literal.Literal.{Literal}
use Rattle.ras_logic.specs.declared.problem.Problem.{Problem}
use Rattle.ras_logic.specs.Shapes.{IsRelation}
use Rattle.ras_logic.specs.Databases.{IsDatabase}
use Rattle.ras_logic.specs.Terms.{constant_term, undef_term}
use Rattle.ras_logic.specs.Formulas.{Fits}
use Rattle.ras_logic.specs.Truth.{Satisfies, value, holds}
use Rattle.ras_logic.specs.Clashes.{FactsClash}
use Rattle.ras_logic.proofs.Clashes.{clash-none}
use Rattle.ras_logic.proofs.Elements.{from_known}
use Rattle.ras_system.specs.declared.state.State.{State}
use Rattle.ras_system.specs.States.{IsInitial, Meets, rows_of, cells_of, values_at, initial_value}
use Rattle.ras_system.specs.Systems.{SystemParts, IsSystem}
use Rattle.ras_system.specs.Obligations.{initial_literal, initial_vars, undef_literal, undef_row, undef_cells, at_start}
use Rattle.ras_system.proofs.Soundness.{All-enumerate}
use Rattle.ras_extension.proofs.Steps.{state-values}
use Rattle.ras_steps.specs.declared.witness.Witness.{Witness}
use Rattle.ras_entail.specs.EscapeStates.{IsStateOfRows}
use Rattle.ras_entail.specs.Starts.{IsModelState, MeetsAtStart, NoneMeetsAtStart}
use Rattle.ras_entail.proofs.EscapeStates.{rows-state, rows-meet, cells-of_row}
use Rattle.ras_obligations.proofs.Numbered.{All-lists}
use Rattle.ras_obligations.proofs.StartFits.{start-fits}
use Rattle.ras_entail.proofs.NumberedAt.{All-left, All-right, numbered-at, lists-at}
use Rattle.std.proofs.lemmas.List.{get_or_default}

-- the value on the right of the literal of a variable's initial value
initial-right : (system : SystemParts) (d : RawDb) (v : Values) (k : ℕ) (c : Option ConstId)
    → value d v (option_map_or constant_term c (undef_term (get_or system.shape.vars k (record { n = 0 })))) ≡ initial_value d c
initial-right system d v k None = refl
initial-right system d v k (Some c) = refl

module _ (system : SystemParts) (good : IsSystem system) (f : Problem) (fits : Fits system.shape f) where
  module _ (d : RawDb) (db : IsDatabase system.shape.schema d) where
    -- what satisfies the premise gives an initial state
    module _ (v : Values) (satisfies : Satisfies system.shape d v (at_start system f)) (s : State) (of : IsStateOfRows system.shape f.rows v s) where
      Holds : Literal → Type 0
      Holds l = IsTrue (holds d v l)

      start-values : All Holds (f.literals ++ initial_vars system)
      unfolding Holds
      start-values = All-left Holds (f.literals ++ initial_vars system) (undef_cells system f.rows) satisfies.literals

      var-initial : (k : ℕ) (c : Option ConstId) → slice_get system.initial k ≡ Some c → get_or s.vars k 0 ≡ initial_value d c
      unfolding Holds
      var-initial k c known =
          let h = numbered-at Holds (λ (p : ℕ × Option ConstId). initial_literal system p.0 p.1) system.initial (All-right Holds f.literals (initial_vars system) start-values) k c known in
          ap (λ (xs : List ℕ). get_or xs k 0) of.vars
          ∙ eqb-true (get_or v.vars k 0) (value d v (option_map_or constant_term c (undef_term (get_or system.shape.vars k (record { n = 0 }))))) h
          ∙ initial-right system d v k c

      cell-undef : (k : ℕ) (r : RelId) → slice_get f.rows k ≡ Some r → All (λ (x : ℕ). x ≡ 0) (get_or v.rows k [])
      unfolding Holds
      cell-undef k r here column e lt =
          let columns : List SortId = get_or system.shape.relations r.n [] in
          let within : column < length columns = omega (arith, lt, (satisfies.values.each_row k r here).as_many) in
          let u : SortId = get_or columns column (record { n = 0 }) in
          let row = lists-at Holds (λ (p : ℕ × RelId). undef_row system p.0 p.1) 0 f.rows (All-right Holds (f.literals ++ initial_vars system) (undef_cells system f.rows) satisfies.literals) k r here in
          let row_is : All Holds (undef_row system k r) = subst (λ (m : ℕ). All Holds (undef_row system m r)) (let same : 0 + k ≡ k = omega arith in same) row in
          let h = numbered-at Holds (λ (p : ℕ × SortId). undef_literal k p.0 p.1) columns row_is column u (slice_get-get_or columns column (record { n = 0 }) within) in
          get_or_default (get_or v.rows k []) column e 0 lt ∙ eqb-true (get_or (get_or v.rows k []) column 0) 0 h

      pub start-initial : IsInitial system d s
      start-initial = record {
        state = rows-state system.shape d f.rows f.params v satisfies.values s of;
        vars = var-initial;
        cells = λ n e lt.
            let r : RelId = record { n = n } in
            let are = of.rows_are r in
            subst (All (All (λ (x : ℕ). x ≡ 0))) (sym are.found_are ∙ get_or_default s.relations n [] e lt)
            (All-map (All (λ (x : ℕ). x ≡ 0)) (λ (k : ℕ). get_or v.rows k []) are.numbers
            (All-weaker (λ (k : ℕ). (k < length f.rows) × (slice_get f.rows k ≡ Some r)) (λ (k : ℕ). All (λ (x : ℕ). x ≡ 0) (get_or v.rows k [])) (λ k h. cell-undef k r h.1) are.numbers are.each));
      }

      pub start-meets : Meets d s f
      start-meets = rows-meet system.shape d f.rows f.params v satisfies.values s of f.literals
          (All-left (λ (l : Literal). IsTrue (holds d v l)) f.literals (initial_vars system)
          (All-left (λ (l : Literal). IsTrue (holds d v l)) (f.literals ++ initial_vars system) (undef_cells system f.rows) satisfies.literals))

    -- an initial state that meets the formula satisfies the premise
    module _ (s : State) (init : IsInitial system d s) (m : Meets d s f) where
      at : Values
      at = values_at s f.rows m.0 m.1

      Held : Literal → Type 0
      Held l = IsTrue (holds d (values_at s f.rows m.0 m.1) l)

      initial-held : (k : ℕ) (c : Option ConstId) → slice_get system.initial k ≡ Some c → Held (initial_literal system k c)
      unfolding Held
      initial-held k c known = eq-eqb (get_or s.vars k 0) (value d (values_at s f.rows m.0 m.1) (option_map_or constant_term c (undef_term (get_or system.shape.vars k (record { n = 0 })))))
          (init.vars k c known ∙ sym (initial-right system d (values_at s f.rows m.0 m.1) k c))

      undef-held : (row : ℕ) (r : RelId) → slice_get f.rows row ≡ Some r → (column : ℕ) (u : SortId) → slice_get (get_or system.shape.relations r.n []) column ≡ Some u → Held (undef_literal row column u)
      unfolding Held
      undef-held row r here column u known =
          let in_relations : r.n < length s.relations = omega (arith, from_known (IsRelation system.shape) f.rows fits.rows row r here, init.state.as_many) in
          let cells = (state-values system.shape d s f.rows f.params m.0 m.1 init.state fits.rows m.2 m.3).each_row row r here in
          let same : get_or (cells_of s f.rows m.0) row [] ≡ get_or (rows_of s r) (get_or m.0 row 0) [] = cells-of_row s f.rows m.0 row r m.2.as_many here in
          let within : column < length (get_or (rows_of s r) (get_or m.0 row 0) []) =
          omega (arith, slice_get_within (get_or system.shape.relations r.n []) column u known, cells.as_many, ap (λ (xs : List ℕ). length xs) same) in
          eq-eqb (get_or (get_or (cells_of s f.rows m.0) row []) column 0) 0
          (ap (λ (xs : List ℕ). get_or xs column 0) same ∙ init.cells r.n [] in_relations (get_or m.0 row 0) [] (m.2.each row r here) column 0 within)

      initial-satisfies : Satisfies system.shape d (values_at s f.rows m.0 m.1) (at_start system f)
      unfolding Held
      initial-satisfies = record {
        values = state-values system.shape d s f.rows f.params m.0 m.1 init.state fits.rows m.2 m.3;
        literals = All-append Held (f.literals ++ initial_vars system) (undef_cells system f.rows) (All-append Held f.literals (initial_vars system) m.4 vars) cells;
      }
        where
          vars : All Held (initial_vars system)
          vars = All-map Held (λ (p : ℕ × Option ConstId). initial_literal system p.0 p.1) (enumerate_from 0 system.initial)
              (All-enumerate (λ (p : ℕ × Option ConstId). Held (initial_literal system p.0 p.1)) system.initial initial-held)

          row : (k : ℕ) (r : RelId) → slice_get f.rows k ≡ Some r → All Held (undef_row system k r)
          row k r here = All-map Held (λ (p : ℕ × SortId). undef_literal k p.0 p.1) (enumerate_from 0 (get_or system.shape.relations r.n []))
              (All-enumerate (λ (p : ℕ × SortId). Held (undef_literal k p.0 p.1)) (get_or system.shape.relations r.n []) (undef-held k r here))

          cells : All Held (undef_cells system f.rows)
          cells = All-lists Held (λ (p : ℕ × RelId). undef_row system p.0 p.1) (enumerate_from 0 f.rows) (All-enumerate (λ (p : ℕ × RelId). All Held (undef_row system p.0 p.1)) f.rows row)

  -- what satisfies the premise is an initial state that meets the formula
  pub start-found : (w : Witness) → IsModelState system.shape (at_start system f) w → MeetsAtStart system f w
  start-found w is = record {
    database = is.database;
    initial = start-initial w.db is.database is.values is.satisfies w.state is.rows;
    values = is.values;
    rows = is.rows;
    meets = start-meets w.db is.database is.values is.satisfies w.state is.rows;
  }

  -- where the premise clashes, there is none
  pub start-none : FactsClash system.shape.schema (at_start system f).literals → NoneMeetsAtStart system f
  start-none clash d s db init m =
      let satisfies = initial-satisfies d db s init m in
      clash-none system.shape d db f.rows f.params (values_at s f.rows m.0 m.1) satisfies.values good.shape.schema (at_start system f).literals (start-fits system good f fits).literals
      satisfies.literals clash
