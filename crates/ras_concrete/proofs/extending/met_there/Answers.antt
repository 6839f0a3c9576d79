use Rattle.std.proofs.Common.{◌≡◌, ℕ, List, [], length, refl, sym, ◌∙◌, ap, subst, All}
use Rattle.ras_logic.specs.declared.ids.RelId.{RelId}
use Rattle.ras_logic.specs.declared.problem.Problem.{Problem}
use Rattle.ras_logic.specs.declared.raw_db.RawDb.{RawDb}
use Rattle.ras_logic.specs.declared.values.Values.{Values}
use Rattle.ras_logic.specs.Truth.{AreValues}
use Rattle.ras_cover.specs.Covers.{bare, HasExtension, IsExtension}
use Rattle.ras_system.specs.States.{Meets, values_at}
use Rattle.ras_concrete.specs.Meeting.{IsMetBySome}
use Rattle.ras_concrete.proofs.Covered.{values_fit, rows_of_problem, can_extend, met_in_extension, cannot}
use Rattle.ras_concrete.proofs.extending.met_there.Goals as goal

pub returns-in_default-clause-none : goal.returns-in_default-clause-none
returns-in_default-clause-none c =
    cannot c.a_cover_is_met_where_there_is_an_extension.ensures c.args.shape.now c.args.db.now c.requires.database c.args.state.now c.requires.state c.args.problem.now c.requires.fits
    c.in_ok-cubes.cubes c.in_ok-cubes.ensures.cover
    (subst (λ (cubes : List Problem). All (λ (q : Problem). ¬ Meets c.args.db.now c.args.state.now q) cubes) c.as_slice.ensures.items (rw c.in_default.is at c.in_ok-rows.ensures.none))

pub values_of-requires : goal.values_of-requires
values_of-requires c =
    let met : IsMetBySome c.args.db.now c.args.state.now c.in_ok-cubes.cubes c.in-Some.rows =
    subst (λ (cubes : List Problem). IsMetBySome c.args.db.now c.args.state.now cubes c.in-Some.rows) c.as_slice.ensures.items (rw c.in-Some.is at c.in_ok-rows.ensures.some) in
    let rows =
    rows_of_problem c.a_cover_is_met_where_there_is_an_extension.ensures c.args.shape.now c.args.db.now c.requires.database c.args.state.now c.requires.state c.args.problem.now c.requires.fits
    c.in_ok-cubes.cubes c.in_ok-cubes.ensures.cover c.in-Some.rows met in
    ap length c.as_slice-3.ensures.items ∙ rows.as_many ∙ sym (ap length c.as_slice-2.ensures.items)

pub extend-requires-clause-values : goal.extend-requires-clause-values
extend-requires-clause-values c =
    let met : IsMetBySome c.args.db.now c.args.state.now c.in_ok-cubes.cubes c.in-Some.rows =
    subst (λ (cubes : List Problem). IsMetBySome c.args.db.now c.args.state.now cubes c.in-Some.rows) c.as_slice.ensures.items (rw c.in-Some.is at c.in_ok-rows.ensures.some) in
    let rows =
    rows_of_problem c.a_cover_is_met_where_there_is_an_extension.ensures c.args.shape.now c.args.db.now c.requires.database c.args.state.now c.requires.state c.args.problem.now c.requires.fits
    c.in_ok-cubes.cubes c.in_ok-cubes.ensures.cover c.in-Some.rows met in
    let same : c.in_ok-values.values ≡ values_at c.args.state.now c.args.problem.now.rows c.in-Some.rows [] =
    c.in_ok-values.ensures ∙ ap (λ (rs : List RelId). values_at c.args.state.now rs c.as_slice-3.result.now []) c.as_slice-2.ensures.items
    ∙ ap (λ (ns : List ℕ). values_at c.args.state.now c.args.problem.now.rows ns []) c.as_slice-3.ensures.items in
    subst (λ (v : Values). AreValues c.args.shape.now c.args.db.now c.args.problem.now.rows [] (bare v)) (sym same)
    (values_fit c.a_cover_is_met_where_there_is_an_extension.ensures c.args.shape.now c.args.db.now c.requires.database c.args.state.now c.requires.state c.args.problem.now c.requires.fits
    c.in_ok-cubes.cubes c.in_ok-cubes.ensures.cover c.in-Some.rows rows)

pub unreachable-requires : goal.unreachable-requires
unreachable-requires c =
    let met : IsMetBySome c.args.db.now c.args.state.now c.in_ok-cubes.cubes c.in-Some.rows =
    subst (λ (cubes : List Problem). IsMetBySome c.args.db.now c.args.state.now cubes c.in-Some.rows) c.as_slice.ensures.items (rw c.in-Some.is at c.in_ok-rows.ensures.some) in
    let same : c.in_ok-values.values ≡ values_at c.args.state.now c.args.problem.now.rows c.in-Some.rows [] =
    c.in_ok-values.ensures ∙ ap (λ (rs : List RelId). values_at c.args.state.now rs c.as_slice-3.result.now []) c.as_slice-2.ensures.items
    ∙ ap (λ (ns : List ℕ). values_at c.args.state.now c.args.problem.now.rows ns []) c.as_slice-3.ensures.items in
    let none : HasExtension c.args.shape.now c.args.problem.now c.args.db.now c.in_ok-values.values → ⊥ = rw c.in-None.is at c.in_ok-extend.ensures.extension in
    none
    (subst (HasExtension c.args.shape.now c.args.problem.now c.args.db.now) (sym same)
    (can_extend c.a_cover_is_met_where_there_is_an_extension.ensures c.args.shape.now c.args.db.now c.requires.database c.args.state.now c.requires.state c.args.problem.now c.requires.fits
    c.in_ok-cubes.cubes c.in_ok-cubes.ensures.cover c.in-Some.rows met))

pub returns-clause-some : goal.returns-clause-some
returns-clause-some c =
    let met : IsMetBySome c.args.db.now c.args.state.now c.in_ok-cubes.cubes c.in-Some.rows =
    subst (λ (cubes : List Problem). IsMetBySome c.args.db.now c.args.state.now cubes c.in-Some.rows) c.as_slice.ensures.items (rw c.in-Some.is at c.in_ok-rows.ensures.some) in
    let same : c.in_ok-values.values ≡ values_at c.args.state.now c.args.problem.now.rows c.in-Some.rows [] =
    c.in_ok-values.ensures ∙ ap (λ (rs : List RelId). values_at c.args.state.now rs c.as_slice-3.result.now []) c.as_slice-2.ensures.items
    ∙ ap (λ (ns : List ℕ). values_at c.args.state.now c.args.problem.now.rows ns []) c.as_slice-3.ensures.items in
    let extension : IsExtension c.args.shape.now c.args.problem.now c.args.db.now c.in_ok-values.values c.in-Some-2.field-0.db c.in-Some-2.field-0.values =
    rw c.in-Some-2.is at c.in_ok-extend.ensures.extension in
    let db : c.in-Some-2.field-0.db ≡ c.unwrap-db.result = sym (rw c.unwrap-db.ensures at c.new.ensures.value) in
    met_in_extension c.a_cover_is_met_where_there_is_an_extension.ensures c.args.shape.now c.args.db.now c.requires.database c.args.state.now c.requires.state c.args.problem.now c.requires.fits
    c.in_ok-cubes.cubes c.in_ok-cubes.ensures.cover c.in-Some.rows met
    (record { db = c.unwrap-db.result; rows = c.in-Some.rows; params = c.in-Some-2.field-0.values.params }) c.in-Some-2.field-0.values refl refl
    (subst (λ (d : RawDb). IsExtension c.args.shape.now c.args.problem.now c.args.db.now (values_at c.args.state.now c.args.problem.now.rows c.in-Some.rows []) d c.in-Some-2.field-0.values) db
    (subst (λ (v : Values). IsExtension c.args.shape.now c.args.problem.now c.args.db.now v c.in-Some-2.field-0.db c.in-Some-2.field-0.values) same extension))
