-- The premise that a formula holds of an initial state fits where the formula does.
use Rattle.std.proofs.Common.{◌≡◌, ℕ, ◌<◌, List, [], ◌++◌, length, get_or, ◌∙◌}
use Rattle.std.specs.Prelude.{slice_get, Option, Some, None, All}
use Rattle.std.specs.List.{enumerate_from}
use Rattle.std.specs.Option.{option_map_or}
use Rattle.std.proofs.lemmas.List.Elements.{All-append, All-map}
use Rattle.std.proofs.lemmas.Option.{slice_get_within, slice_get-get_or}
use Rattle.ras_logic.specs.declared.ids.SortId.{SortId}
use Rattle.ras_logic.specs.declared.ids.RelId.{RelId}
use Rattle.ras_logic.specs.declared.ids.ConstId.{ConstId}
use Rattle.ras_logic.specs.declared.literal.Literal.{Literal}
use Rattle.ras_logic.specs.declared.problem.Problem.{Problem}
use Rattle.ras_logic.specs.Schemas.{IsSort}
use Rattle.ras_logic.specs.Shapes.{IsRelation}
use Rattle.ras_logic.specs.Terms.{constant_term, undef_term, sort_of}
use Rattle.ras_logic.specs.Formulas.{LiteralFits, Fits}
use Rattle.ras_logic.proofs.Elements.{from_known}
use Rattle.ras_logic.proofs.TermSorts.{sort_of-undef, sort_of-constant}
use Rattle.ras_system.specs.Systems.{SystemParts, IsSystem}
use Rattle.ras_system.specs.Obligations.{initial_literal, initial_vars, undef_literal, undef_row, undef_cells, at_start}
use Rattle.ras_system.proofs.Soundness.{All-enumerate}
use Rattle.ras_obligations.proofs.Numbered.{All-lists}

module _ (system : SystemParts) (good : IsSystem system) (f : Problem) (fits : Fits system.shape f) where
  -- the literal fits over the formula's rows
  Fit : Literal → Type 0
  Fit = LiteralFits system.shape f.rows f.params

  initial-fits : (k : ℕ) (c : Option ConstId) → slice_get system.initial k ≡ Some c → Fit (initial_literal system k c)
  unfolding Fit
  initial-fits k c known =
      let u : SortId = get_or system.shape.vars k (record { n = 0 }) in
      let lt : k < length system.shape.vars = rw (← good.initial_for_each) (slice_get_within system.initial k c known) in
      let var : slice_get system.shape.vars k ≡ Some u = slice_get-get_or system.shape.vars k (record { n = 0 }) lt in
      (u, rw var, right c known u var)
    where
      right : (c : Option ConstId) → slice_get system.initial k ≡ Some c → (u : SortId) → slice_get system.shape.vars k ≡ Some u
          → sort_of system.shape f.rows f.params (option_map_or constant_term c (undef_term u)) ≡ Some u
      right None known u var = sort_of-undef system.shape f.rows f.params u (from_known (IsSort system.shape.schema.sorts) system.shape.vars good.shape.vars k u var)
      right (Some c) known u var = sort_of-constant system.shape f.rows f.params c u (good.initial_sorts k c u known var)

  undef-fits : (row : ℕ) (r : RelId) → slice_get f.rows row ≡ Some r → (column : ℕ) (u : SortId) → slice_get (get_or system.shape.relations r.n []) column ≡ Some u → Fit (undef_literal row column u)
  unfolding Fit
  undef-fits row r here column u known =
      let lt : r.n < length system.shape.relations = from_known (IsRelation system.shape) f.rows fits.rows row r here in
      let columns : slice_get system.shape.relations r.n ≡ Some (get_or system.shape.relations r.n []) = slice_get-get_or system.shape.relations r.n [] lt in
      let sorted : All (IsSort system.shape.schema.sorts) (get_or system.shape.relations r.n []) =
      from_known (All (IsSort system.shape.schema.sorts)) system.shape.relations good.shape.columns r.n (get_or system.shape.relations r.n []) columns in
      (u, rw (here, columns, known), sort_of-undef system.shape f.rows f.params u (from_known (IsSort system.shape.schema.sorts) (get_or system.shape.relations r.n []) sorted column u known))

  pub start-fits : Fits system.shape (at_start system f)
  unfolding Fit
  start-fits = record {
    rows = fits.rows;
    params = fits.params;
    literals = All-append Fit (f.literals ++ initial_vars system) (undef_cells system f.rows) (All-append Fit f.literals (initial_vars system) fits.literals vars) cells;
  }
    where
      vars : All Fit (initial_vars system)
      vars = All-map Fit (λ (p : ℕ × Option ConstId). initial_literal system p.0 p.1) (enumerate_from 0 system.initial)
          (All-enumerate (λ (p : ℕ × Option ConstId). Fit (initial_literal system p.0 p.1)) system.initial initial-fits)

      row : (k : ℕ) (r : RelId) → slice_get f.rows k ≡ Some r → All Fit (undef_row system k r)
      row k r here = All-map Fit (λ (p : ℕ × SortId). undef_literal k p.0 p.1) (enumerate_from 0 (get_or system.shape.relations r.n []))
          (All-enumerate (λ (p : ℕ × SortId). Fit (undef_literal k p.0 p.1)) (get_or system.shape.relations r.n []) (undef-fits k r here))

      cells : All Fit (undef_cells system f.rows)
      cells = All-lists Fit (λ (p : ℕ × RelId). undef_row system p.0 p.1) (enumerate_from 0 f.rows) (All-enumerate (λ (p : ℕ × RelId). All Fit (undef_row system p.0 p.1)) f.rows row)
