-- A state meets a cover exactly where it meets the problem in some larger database.
use Rattle.std.proofs.Common.{◌≡◌, ℕ, List, [], sym, subst}
use Rattle.std.specs.Prelude.{All, ◌↔◌}
use Rattle.ras_logic.specs.declared.raw_db.RawDb.{RawDb}
use Rattle.ras_logic.specs.declared.ids.RelId.{RelId}
use Rattle.ras_logic.specs.declared.problem.Problem.{Problem}
use Rattle.ras_logic.specs.Shapes.{ShapeParts}
use Rattle.ras_logic.specs.Databases.{IsDatabase, Extends}
use Rattle.ras_logic.specs.Formulas.{Fits, IsCube}
use Rattle.ras_logic.specs.Truth.{AreValues, AllHold, Satisfies}
use Rattle.ras_logic.proofs.Elements.{from_known}
use Rattle.ras_system.specs.declared.state.State.{State}
use Rattle.ras_system.specs.Systems.{SystemParts}
use Rattle.ras_system.specs.States.{IsState, AreRows, values_at, Meets, MeetsAny}
use Rattle.ras_backwards.specs.Leading.{LeadsIn}
use Rattle.ras_extension.specs.Reaching.{IsStateIn, Leads}
use Rattle.ras_extension.proofs.Steps.{state-values}
use Rattle.ras_extension.proofs.States.{state-larger, meets-smaller}
use Rattle.ras_split.specs.Among.{IsAmong}
use Rattle.ras_split.proofs.Listed.{any-among}
use Rattle.ras_cover.specs.Covers.{bare, IsCover}
use Rattle.ras_cover.proofs.Extending.{number-of}
use Rattle.ras_leads.specs.Covered.{AreMetWhereLeading}
use Rattle.ras_leads.specs.Gathered.{AreGathered}

module _ (shape : ShapeParts) (p : Problem) (cubes : List Problem) (d : RawDb) (s : State) (fits : Fits shape p) (cover : IsCover shape p cubes)
    (db : IsDatabase shape.schema d) (st : IsState shape d s) where
  pub met-larger : MeetsAny d s cubes → (larger : RawDb) × IsDatabase shape.schema larger × Extends larger d × Meets larger s p
  met-larger any =
      let c : Problem = any.1 in
      let m : Meets d s c = any.4 in
      let known = number-of (Meets d s) cubes any in
      let rows : c.rows ≡ p.rows = from_known (λ (x : Problem). x.rows ≡ p.rows) cubes cover.cubes_of.rows any.0 c known in
      let fit : Fits shape c = from_known (Fits shape) cubes cover.cubes_of.fit any.0 c known in
      let values : AreValues shape d c.rows c.params (values_at s c.rows m.0 m.1) = state-values shape d s c.rows c.params m.0 m.1 st fit.rows m.2 m.3 in
      let x = cover.extendable d (values_at s c.rows m.0 m.1) db (any.0, c, any.2, any.3, record { values = values; literals = m.4 }) in (
        x.larger,
        x.database,
        x.extends,
        (
          m.0,
          x.params,
          subst (λ (r : List RelId). AreRows s r m.0) rows m.2,
          x.satisfied.values.param_values,
          subst (λ (r : List RelId). AllHold x.larger (values_at s r m.0 x.params) p.literals) rows x.satisfied.literals,
        ),
      )

  pub met-here : ((larger : RawDb) × IsDatabase shape.schema larger × Extends larger d × Meets larger s p) → MeetsAny d s cubes
  met-here h =
      let larger : RawDb = h.0 in
      let m : Meets larger s p = h.3 in
      let values : AreValues shape larger p.rows p.params (values_at s p.rows m.0 m.1) =
      state-values shape larger s p.rows p.params m.0 m.1 (state-larger shape larger d s h.2 st) fits.rows m.2 m.3 in
      let some = cover.implied larger (values_at s p.rows m.0 m.1) h.1 (record { values = values; literals = m.4 }) in
      let c : Problem = some.1 in
      let known = number-of (Satisfies shape larger (bare (values_at s p.rows m.0 m.1))) cubes some in
      let rows : c.rows ≡ p.rows = from_known (λ (x : Problem). x.rows ≡ p.rows) cubes cover.cubes_of.rows some.0 c known in
      let fit : Fits shape c = from_known (Fits shape) cubes cover.cubes_of.fit some.0 c known in
      let cube : IsCube c = from_known IsCube cubes cover.cubes_of.are_cubes some.0 c known in
      let there : Meets larger s c = (
        m.0,
        [],
        subst (λ (r : List RelId). AreRows s r m.0) (sym rows) m.2,
        some.4.values.param_values,
        subst (λ (r : List RelId). AllHold larger (values_at s r m.0 []) c.literals) (sym rows) some.4.literals,
      ) in
      (some.0, c, some.2, some.3, meets-smaller shape larger d s c db h.2 st fit cube there)

  pub met-both : MeetsAny d s cubes ↔ ((larger : RawDb) × IsDatabase shape.schema larger × Extends larger d × Meets larger s p)
  met-both = (met-larger, met-here)

module _ (system : SystemParts) (number : ℕ) (cube : Problem) (problems : List Problem) (fit : All (Fits system.shape) problems)
    (exact : (d : RawDb) (s : State) → IsState system.shape d s → (LeadsIn system d s number cube ↔ MeetsAny d s problems))
    (cubes : List Problem) (are : AreGathered system.shape problems cubes) where
  met-leads : (d : RawDb) (s : State) → IsStateIn system d s → MeetsAny d s cubes → Leads system d s number cube
  met-leads d s at any =
      let c : Problem = any.1 in
      let of = are.each c (record { number = any.0; known = number-of (Meets d s) cubes any }) in
      let fits = from_known (Fits system.shape) problems fit of.among.number of.problem of.among.known in
      let x = met-larger system.shape of.problem of.cover d s fits of.covers.is at.database at.state (any-among (Meets d s) of.cover c of.one any.4) in
      let l = (exact x.0 s (state-larger system.shape x.0 d s x.2 at.state)).1 (any-among (Meets x.0 s) problems of.problem of.among x.3) in
      record { larger = x.0; choice = l.choice; next = l.next; database = x.1; extends = x.2; by = l.by; step = l.step; meets = l.meets }

  leads-met : (d : RawDb) (s : State) → IsStateIn system d s → Leads system d s number cube → MeetsAny d s cubes
  leads-met d s at l =
      let any = (exact l.larger s (state-larger system.shape l.larger d s l.extends at.state)).0 (record { choice = l.choice; next = l.next; by = l.by; step = l.step; meets = l.meets }) in
      let p : Problem = any.1 in
      let among : IsAmong problems p = record { number = any.0; known = number-of (Meets l.larger s) problems any } in
      let f = are.all p among in
      let fits = from_known (Fits system.shape) problems fit among.number p among.known in
      let met = met-here system.shape p f.0 d s fits f.1.is at.database at.state (l.larger, l.database, l.extends, any.4) in
      any-among (Meets d s) cubes met.1 (f.2 met.1 (record { number = met.0; known = number-of (Meets d s) f.0 met })) met.4

  pub leads-exact : AreMetWhereLeading system number cube cubes
  leads-exact d s at = (met-leads d s at, leads-met d s at)
