-- What a cover of a problem tells of the databases in which a state meets the problem.
use Rattle.std.proofs.Common.{◌≡◌, ℕ, List, [], get_or, refl, sym, ◌∙◌, ap, subst, ◌↔◌, All}
use Rattle.std.proofs.lemmas.Option.{slice_get_within, get_or_from_slice_get}
use Rattle.ras_logic.specs.declared.ids.RelId.{RelId}
use Rattle.ras_logic.specs.declared.ids.SortId.{SortId}
use Rattle.ras_logic.specs.declared.raw_db.RawDb.{RawDb}
use Rattle.ras_logic.specs.declared.values.Values.{Values}
use Rattle.ras_logic.specs.declared.problem.Problem.{Problem}
use Rattle.ras_logic.specs.Shapes.{ShapeParts}
use Rattle.ras_logic.specs.Databases.{IsDatabase}
use Rattle.ras_logic.specs.Formulas.{Fits, IsCube}
use Rattle.ras_logic.specs.Truth.{AreElements, AreValues, AllHold, Satisfies}
use Rattle.ras_logic.proofs.Elements.{from_known}
use Rattle.ras_system.specs.declared.state.State.{State}
use Rattle.ras_system.specs.States.{IsState, AreRows, values_at, Meets}
use Rattle.ras_extension.proofs.Steps.{state-values}
use Rattle.ras_extension.proofs.States.{state-larger}
use Rattle.ras_cover.specs.Covers.{bare, SatisfiesAny, HasExtension, IsExtension, IsCover}
use Rattle.ras_concrete.specs.declared.extending.There.{There}
use Rattle.ras_concrete.specs.Meeting.{IsMetBySome, IsMetThere, CannotMeet}

-- what the law of covers says
abbrev pub CoverLaw : Type 0
CoverLaw =
    (shape : ShapeParts) (p : Problem) (cubes : List Problem) → IsCover shape p cubes → (d : RawDb) (v : Values) → IsDatabase shape.schema d
    → AreValues shape d p.rows [] (bare v) → (SatisfiesAny shape d (bare v) cubes ↔ HasExtension shape p d v)

no_elements : (d : RawDb) → AreElements d [] []
no_elements d = record { as_many = refl; each = λ k sort known. absurd (cc) }

module _ (law : CoverLaw) (shape : ShapeParts) (d : RawDb) (db : IsDatabase shape.schema d) (s : State) (st : IsState shape d s)
    (p : Problem) (fits : Fits shape p) (cubes : List Problem) (is : IsCover shape p cubes) where
  abbrev by_rows : List ℕ → Values
  by_rows rows = values_at s p.rows rows []

  pub values_fit : (rows : List ℕ) → AreRows s p.rows rows → AreValues shape d p.rows [] (by_rows rows)
  values_fit rows are = state-values shape d s p.rows [] rows [] st fits.rows are (no_elements d)

  -- rows by which a cube of the cover is met
  module _ (rows : List ℕ) (met : IsMetBySome d s cubes rows) where
    same_rows : met.cube.rows ≡ p.rows
    same_rows = from_known (λ (c : Problem). c.rows ≡ p.rows) cubes is.cubes_of.rows met.place met.cube met.known

    no_params : met.cube.params ≡ []
    no_params = (from_known IsCube cubes is.cubes_of.are_cubes met.place met.cube met.known).none

    pub rows_of_problem : AreRows s p.rows rows
    rows_of_problem = subst (λ (rs : List RelId). AreRows s rs rows) same_rows met.by.rows

    cube_satisfied : Satisfies shape d (by_rows rows) met.cube
    cube_satisfied = record {
      values = subst (λ (params : List SortId). AreValues shape d met.cube.rows params (by_rows rows)) (sym no_params)
          (subst (λ (rs : List RelId). AreValues shape d rs [] (by_rows rows)) (sym same_rows) (values_fit rows rows_of_problem));
      literals = subst (λ (rs : List RelId). AllHold d (values_at s rs rows []) met.cube.literals) same_rows met.by.literals;
    }

    pub can_extend : HasExtension shape p d (by_rows rows)
    can_extend =
        (law shape p cubes is d (by_rows rows) db (values_fit rows rows_of_problem)).0 (
          met.place,
          met.cube,
          slice_get_within cubes met.place met.cube met.known,
          get_or_from_slice_get cubes met.place met.cube met.cube met.known,
          cube_satisfied,
        )

    pub met_in_extension : (there : There) (v : Values) → there.rows ≡ rows → there.params ≡ v.params → IsExtension shape p d (by_rows rows) there.db v
        → IsMetThere shape d s p there
    met_in_extension there v same_there same_params x = record {
      database = x.database;
      extends = x.extends;
      rows = subst (AreRows s p.rows) (sym same_there) rows_of_problem;
      params = subst (AreElements there.db p.params) (sym same_params) x.satisfied.values.param_values;
      literals = subst (λ (w : Values). AllHold there.db w p.literals) same x.satisfied.literals;
    }
      where
        same : v ≡ values_at s p.rows there.rows there.params
        same =
            ap (λ (vars : List ℕ). record { vars = vars; rows = v.rows; params = v.params }) x.vars
            ∙ ap (λ (cells : List (List ℕ)). record { vars = s.vars; rows = cells; params = v.params }) x.rows
            ∙ ap (λ (params : List ℕ). values_at s p.rows rows params) (sym same_params)
            ∙ ap (λ (rs : List ℕ). values_at s p.rows rs there.params) (sym same_there)

  -- where no cube of the cover is met, no larger database helps
  pub cannot : All (λ (c : Problem). ¬ Meets d s c) cubes → CannotMeet shape d s p
  cannot none larger there ext meets =
      let rows = meets.0 in
      let values = state-values shape larger s p.rows p.params rows meets.1 (state-larger shape larger d s ext st) fits.rows meets.2 meets.3 in
      let any =
      (law shape p cubes is d (by_rows rows) db (values_fit rows meets.2)).1
      (record { larger = larger; params = meets.1; database = there; extends = ext; satisfied = record { values = values; literals = meets.4 } }) in
      let known = any.2 in
      let c : Problem = any.1 in
      let at : get_or cubes any.0 any.1 ≡ any.1 = any.3 in
      let flat : c.params ≡ [] = subst (λ (q : Problem). q.params ≡ []) at (is.cubes_of.are_cubes any.0 any.1 any.2).none in
      let same : c.rows ≡ p.rows = subst (λ (q : Problem). q.rows ≡ p.rows) at (is.cubes_of.rows any.0 any.1 any.2) in
      none any.0 any.1 any.2
      (subst (Meets d s) (sym at) (
        rows,
        [],
        subst (λ (rs : List RelId). AreRows s rs rows) (sym same) meets.2,
        subst (λ (params : List SortId). AreElements d params []) (sym flat) (no_elements d),
        subst (λ (rs : List RelId). AllHold d (values_at s rs rows []) c.literals) (sym same) any.4.literals,
      ))
