-- What extends to a problem is found in the first case whose cube holds.
use Rattle.std.proofs.Common.{◌≡◌, ℕ, ◌<◌, Bool, List, [], length, refl, sym, ◌∙◌, ap, subst}
use Rattle.std.specs.Prelude.{slice_get, Option, Some, None, Result, Ok, Err, IfOk, MatchOption, IsTrue, ◌↔◌}
use Rattle.std.proofs.lemmas.Option.{slice_get_within}
use Rattle.ras_logic.specs.declared.ids.RelId.{RelId}
use Rattle.ras_logic.specs.declared.ids.SortId.{SortId}
use Rattle.ras_logic.specs.declared.raw_db.RawDb.{RawDb}
use Rattle.ras_logic.specs.declared.values.Values.{Values}
use Rattle.ras_logic.specs.declared.problem.Problem.{Problem}
use Rattle.ras_logic.specs.declared.literal.Literal.{Literal}
use Rattle.ras_logic.specs.declared.term.Base.TheVariants.{Param}
use Rattle.ras_logic.specs.Shapes.{ShapeParts, IsShape}
use Rattle.ras_logic.specs.Databases.{IsDatabase}
use Rattle.ras_logic.specs.Truth.{AreValues, AllHold, Satisfies}
use Rattle.ras_logic.specs.Formulas.{Fits}
use Rattle.ras_logic.specs.Clashes.{FactsClash}
use Rattle.ras_logic.proofs.Clashes.{clash-none}
use Rattle.ras_extension.proofs.Truth.{to-smaller}
use Rattle.ras_closure.specs.declared.model.Model.{Model}
use Rattle.ras_closure.specs.Closings.{IsClosureOf}
use Rattle.ras_closure.specs.Closures.{ClosureParts, IsClosure}
use Rattle.ras_closure.specs.Elements.{number}
use Rattle.ras_closure.specs.Numbered.{IsTable}
use Rattle.ras_closure.specs.Values.{AreElementsOf}
use Rattle.ras_closure.proofs.Cases.{none_some}
use Rattle.ras_split.specs.Among.{IsAmong}
use Rattle.ras_cover.specs.Covers.{with_params, bare, SatisfiesAny, HasExtension, IsExtension, IsCover}
use Rattle.ras_split.specs.Standing.{CaseParts, AreAllStanding}
use Rattle.ras_split.specs.Splits.{AreCases}
use Rattle.ras_cubes.specs.Dues.{IsCubeOf}
use Rattle.ras_cover.specs.Extensions.{AreNumbersFor, IsDbOver}
use Rattle.ras_cover.proofs.Extending.{cover-extended}
use Rattle.ras_cover.proofs.Extendable.{larger-is}
use Rattle.ras_cover.proofs.CoverLaws.{case-in, facts-of, held, full-fits}
use Rattle.ras_enlarge.specs.Enlarged.{IsCaseOver, AreMissed, IsExtensionOfSome}

-- in the larger database, with the elements of the data parameters
pub case-extension : (c : CaseParts) → IsTable c.closure.table → IsClosure c.closure → AreAllStanding c.closure c.terms → (d : RawDb) (v : Values) → IsCaseOver c d v
    → (cube : Problem) → IsCubeOf c.closure c.terms cube → AllHold d v cube.literals → (num : ℕ → ℕ) (size : SortId → ℕ) → AreNumbersFor c.closure c.terms d v num size
    → (e : RawDb) → IsDbOver c.closure.table d num size e → (params : List ℕ) → AreElementsOf c.closure.table.terms num Param (length c.closure.table.problem.params) params
    → IsExtension c.closure.table.shape c.closure.table.problem d v e (with_params v params)
case-extension c table closure all d v over_case cube of hold num size are e over params elements =
    larger-is c.closure table closure over_case.no_clash c.terms all cube of over_case.facts d v over_case.database
    (record {
      values = subst (λ (q : List SortId). AreValues c.closure.table.shape d cube.rows q v) (sym of.params)
          (subst (λ (r : List RelId). AreValues c.closure.table.shape d r [] v) (sym of.rows) over_case.values);
      literals = hold;
    })
    num size are e over params elements

module _ (shape : ShapeParts) (problem : Problem) (first : ClosureParts) (of : IsClosureOf shape problem first) (cases : List CaseParts) (are : AreCases first cases)
    (d : RawDb) (v : Values) (db : IsDatabase shape.schema d) (values : AreValues shape d problem.rows [] (bare v)) where
  pub case-over : (c : CaseParts) → IsAmong cases c → IsCaseOver c d (bare v)
  case-over c among =
      let is = case-in shape problem first of cases are c among in
      record {
        no_clash = (are.each c among).more.no_clash;
        facts = facts-of shape problem first of cases are c among;
        database = subst (λ (s : ShapeParts). IsDatabase s.schema d) (sym is.shape_is) db;
        values = subst (λ (s : ShapeParts). AreValues s d c.closure.table.problem.rows [] (bare v)) (sym is.shape_is)
            (subst (λ (q : Problem). AreValues shape d q.rows [] (bare v)) (sym is.problem_is) values);
      }

  -- where no cube of a case holds, nothing extends
  pub missed-no_extension : AreMissed cases (length cases) d (bare v) → HasExtension shape problem d v → ⊥
  missed-no_extension missed x =
      let h = held shape problem first of cases are x.larger (with_params v x.params) x.database x.satisfied in
      let m = missed h.among.number h.one (slice_get_within cases h.among.number h.one h.among.known) h.among.known in
      let satisfied = h.implied m.cube m.of in
      let fits : Fits shape m.cube = full-fits shape problem first of cases are h.one h.among m.cube m.of in
      let rows : m.cube.rows ≡ problem.rows = m.of.cube.rows ∙ ap (λ (q : Problem). q.rows) (case-in shape problem first of cases are h.one h.among).problem_is in
      let here : AreValues shape d m.cube.rows m.cube.params (bare v) =
      subst (λ (q : List SortId). AreValues shape d m.cube.rows q (bare v)) (sym m.of.cube.params) (subst (λ (r : List RelId). AreValues shape d r [] (bare v)) (sym rows) values) in
      m.missed (to-smaller shape x.larger d db x.extends m.cube.rows m.cube.params (bare v) here m.cube.literals fits.literals satisfied.literals)

  pub some-extension : (e : RawDb) (w : Values) → IsExtensionOfSome cases problem d (bare v) e w → IsExtension shape problem d v e w
  some-extension e w some =
      let x : IsExtension shape problem d (bare v) e w =
      subst (λ (s : ShapeParts). IsExtension s problem d (bare v) e w) (case-in shape problem first of cases are some.one some.among).shape_is some.extension in
      record { database = x.database; extends = x.extends; vars = x.vars; rows = x.rows; satisfied = x.satisfied }

-- nothing extends to what clashes
pub clash-no_extension : (shape : ShapeParts) → IsShape shape → (problem : Problem) → Fits shape problem → FactsClash shape.schema problem.literals → (d : RawDb) (v : Values)
    → HasExtension shape problem d v → ⊥
clash-no_extension shape ok problem fits clash d v x =
    clash-none shape x.larger x.database problem.rows problem.params (with_params v x.params) x.satisfied.values ok.schema problem.literals fits.literals x.satisfied.literals clash

-- where an answer is none just where nothing extends, it is none just where no cube of a cover is met
pub none-of_cover : (shape : ShapeParts) (problem : Problem) (d : RawDb) (v : Values) → IsDatabase shape.schema d → AreValues shape d problem.rows [] (bare v) → (o : Option Model)
    → MatchOption o (HasExtension shape problem d v → ⊥) (λ m. IsExtension shape problem d v m.db m.values)
    → (cubes : List Problem) → IsCover shape problem cubes → (o ≡ None) ↔ (SatisfiesAny shape d (bare v) cubes → ⊥)
none-of_cover shape problem d v db values None h cubes cover =
    (λ e some. h ((cover-extended shape problem cubes cover d v db values).0 some), λ no_cube. refl)
none-of_cover shape problem d v db values (Some m) h cubes cover = (
  λ e. absurd (none_some (sym e)),
  λ no_cube. absurd (no_cube ((cover-extended shape problem cubes cover d v db values).1 (record {
    larger = m.db;
    params = m.values.params;
    database = h.database;
    extends = h.extends;
    satisfied = subst (λ (w : Values). Satisfies shape m.db w problem) (same-values m.values v h.vars h.rows) h.satisfied;
  }))),
)
  where
    same-values : (w v : Values) → w.vars ≡ v.vars → w.rows ≡ v.rows → w ≡ with_params v w.params
    same-values w v vars rows =
        let one : record { vars = w.vars; rows = w.rows; params = w.params } ≡ with_params v w.params =
        ap (λ (xs : List ℕ). let u : Values = record { vars = xs; rows = w.rows; params = w.params } in u) vars
        ∙ ap (λ (ys : List (List ℕ)). let u : Values = record { vars = v.vars; rows = ys; params = w.params } in u) rows in one

-- an answer that may be none
pub option-if : {A : Type 0} {N M : Type 0} {P Q : A → Type 0} (o : Option A) → MatchOption o N P → (N → M) → ((x : A) → P x → Q x) → MatchOption o M Q
option-if None h f g = f h
option-if (Some x) h f g = g x h

pub ok-if : {T E : Type 0} {P Q : T → Type 0} (r : Result T E) → IfOk r P → ((x : T) → P x → Q x) → IfOk r Q
ok-if (Ok x) h f = f x h
ok-if (Err e) h f = h
