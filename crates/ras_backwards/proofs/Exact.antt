-- The list of a preimage is exact.
use Rattle.std.proofs.Common.{◌≡◌, ℕ, ◌<◌, true, List, [], ◌∷◌, ◌++◌, map, length, take, get_or, refl, sym, ◌∙◌, ap, subst, slice_get, Option, Some, All, Any, ◌↔◌}
use Rattle.std.specs.Prelude.{IsTrue}
use Rattle.std.specs.List.{AllByRecursion}
use Rattle.std.proofs.lemmas.List.{nil_from_length}
use Rattle.std.proofs.Math.Seq.{take-append_seam}
use Rattle.std.proofs.lemmas.List.Elements.{All-from_recursion, recursion_from_All}
use Rattle.ras_logic.specs.declared.ids.SortId.{SortId}
use Rattle.ras_logic.specs.declared.ids.RelId.{RelId}
use Rattle.ras_logic.specs.declared.raw_db.RawDb.{RawDb}
use Rattle.ras_logic.specs.declared.values.Values.{Values}
use Rattle.ras_logic.specs.declared.literal.Literal.{Literal}
use Rattle.ras_logic.specs.declared.literal.Literal.TheVariants.{Equal}
use Rattle.ras_logic.specs.declared.problem.Problem.{Problem}
use Rattle.ras_logic.specs.Shapes.{ShapeParts, IsRelation}
use Rattle.ras_logic.specs.Terms.{base_term}
use Rattle.ras_logic.specs.Formulas.{LiteralFits, Fits, IsCube, replace}
use Rattle.ras_logic.specs.Truth.{AreElements, AllHold, holds}
use Rattle.ras_logic.proofs.Elements.{from_known}
use Rattle.ras_system.specs.declared.state.State.{State}
use Rattle.ras_system.specs.declared.choice.Choice.{Choice}
use Rattle.ras_system.specs.declared.transition.Transition.{Transition}
use Rattle.ras_system.specs.States.{IsState, AreRows, cells_of, values_at, Meets, MeetsAny}
use Rattle.ras_system.specs.Steps.{state_after, StepBy}
use Rattle.ras_system.specs.Systems.{IsTransition}
use Rattle.ras_system.specs.Preimages.{unmatched, CaseChoice, row_sources, base_before, preimage_problem, preimage}
use Rattle.ras_backwards.specs.Leading.{LeadsBy}
use Rattle.ras_backwards.proofs.Lists.{In, all-append, all-parts, any_in, in_any, in_all}
use Rattle.ras_backwards.proofs.ChosenRows.{AreChosen, rows-chosen, chosen-rows, chosen-length, chosen-append, chosen-cut, cells-append, length-cells}
use Rattle.ras_backwards.proofs.Replaced.{hold-before, hold-after}
use Rattle.ras_backwards.proofs.Combinations.{IsMatching, IsCombination, preimage-is, is-preimage}
use Rattle.ras_backwards.proofs.Links.{Link, relations, numbers, matching, ways, more_relations, more_numbers, unmatched-relations, placed-choices, none-taken, placed-matching, more-chosen, more-apart, all-chosen, links-of}
use Rattle.ras_backwards.proofs.After.{extended, extended-base, placed-seen, true-taken, way_literals, ways-before, ways-after, make, length-after, base-after}

pub unreplaced : (ls : List Literal) → map (replace base_term) ls ≡ ls
unreplaced [] = refl
unreplaced (Equal left right same ∷ ls) = ap (λ l. Equal left right same ∷ l) (unreplaced ls)

move : {A B C D : Type 0} (M : A → B → C → D → Type 0) {a x : A} {b y : B} {c z : C} {d w : D} → a ≡ x → b ≡ y → c ≡ z → d ≡ w → M a b c d → M x y z w
move M {a} {x} {b} {y} {c} {z} {d} {w} p q r s h =
    subst (λ k. M x y z k) s (subst (λ k. M x y k d) r (subst (λ k. M x k c d) q (subst (λ k. M k b c d) p h)))

module _ (shape : ShapeParts) (d : RawDb) (t : Transition) (good : IsTransition shape t) (s : State) (st : IsState shape d s)
    (cube : Problem) (fit : Fits shape cube) (flat : IsCube cube) where
  count : ℕ
  count = length t.rows

  cube_fits : AllByRecursion (LiteralFits shape cube.rows []) cube.literals
  cube_fits = recursion_from_All (LiteralFits shape cube.rows []) cube.literals (subst (λ (p : List SortId). All (LiteralFits shape cube.rows p) cube.literals) flat.none fit.literals)

  guard_fits : (disjunct : List Literal) → In disjunct t.guard → AllByRecursion (LiteralFits shape t.rows t.params) disjunct
  guard_fits disjunct i =
      recursion_from_All (LiteralFits shape t.rows t.params) disjunct
      (in_all (All (LiteralFits shape t.rows t.params)) t.guard (recursion_from_All (All (LiteralFits shape t.rows t.params)) t.guard good.guard) disjunct i)

  module _ (c : Choice) (rows : AreRows s t.rows c.rows) (elements : AreElements d t.params c.values) where
    are : AreChosen s t.rows c.rows
    are = rows-chosen s t.rows c.rows rows

    -- the rows of a formula before and after a step
    rows-before : (ks : List ℕ) → AreRows (state_after d t s c) cube.rows ks → AreRows s cube.rows ks
    rows-before ks h = record {
      as_many = h.as_many;
      each = λ k r known. subst (λ n. get_or ks k 0 < n) (length-after shape d t good s st c.rows are c.values c.transition r (from_known (IsRelation shape) cube.rows fit.rows k r known)) (h.each k r known);
      different = h.different;
    }

    rows-after : (ks : List ℕ) → AreRows s cube.rows ks → AreRows (state_after d t s c) cube.rows ks
    rows-after ks h = record {
      as_many = h.as_many;
      each = λ k r known. subst (λ n. get_or ks k 0 < n) (sym (length-after shape d t good s st c.rows are c.values c.transition r (from_known (IsRelation shape) cube.rows fit.rows k r known))) (h.each k r known);
      different = h.different;
    }

    module _ (ls : List Link) where
      more : List (List ℕ)
      more = cells_of s (more_relations ls) (more_numbers ls)

      -- the cells of the rows of the problem
      all-cells : cells_of s (t.rows ++ map (λ (q : ℕ × RelId). q.1) (unmatched (length t.rows) (relations ls) (matching ls))) (c.rows ++ more_numbers ls) ≡ cells_of s t.rows c.rows ++ cells_of s (more_relations ls) (more_numbers ls)
      all-cells =
          ap (λ (q : List RelId). cells_of s (t.rows ++ q) (c.rows ++ more_numbers ls)) (unmatched-relations (length t.rows) ls)
          ∙ cells-append s t.rows (more_relations ls) c.rows (more_numbers ls) (chosen-length s t.rows c.rows are)

    -- from a step into the formula to a problem of the list
    forwards : Any (AllHold d (values_at s t.rows c.rows c.values)) t.guard → Meets d (state_after d t s c) cube → MeetsAny d s (preimage t cube)
    forwards guard m =
        let new : State = state_after d t s c in
        let ks : List ℕ = m.0 in
        let made = make shape d t good s st c.rows are c.values (length t.rows) cube.rows ks m.2.as_many in
        let ls : List Link = made.links in
        let more_cells : List (List ℕ) = cells_of s (more_relations ls) (more_numbers ls) in
        let chosen_before : AreChosen s cube.rows ks = rows-chosen s cube.rows ks (rows-before ks m.2) in
        let in_ls : AreChosen s (relations ls) (numbers ls) =
        subst (λ (x : List ℕ). AreChosen s (relations ls) x) (sym made.numbers_are) (subst (λ (x : List RelId). AreChosen s x ks) (sym made.relations_are) chosen_before) in
        let taken = true-taken shape d t good s st c.rows are c.values (length t.rows) ls made.placed made.hold in
        let seen = placed-seen shape d t good s st c.rows are c.values (length t.rows) ls (cells_of s t.rows c.rows) (length-cells s t.rows c.rows (chosen-length s t.rows c.rows are)) made.placed in
        let v : Values = extended shape d t good s st c.rows are c.values more_cells in
        let Holds : Literal → Type 0 = λ l. holds d v l ≡ true in
        let no_params : m.1 ≡ [] = nil_from_length m.1 (m.3.as_many ∙ ap length flat.none) in
        let hold_after : AllByRecursion (λ l. holds d (values_at new (relations ls) (numbers ls) []) l ≡ true) cube.literals =
        move (λ (x : List RelId) (y z : List ℕ) (u : ℕ). AllByRecursion (λ l. holds d (values_at new x y z) l ≡ true) cube.literals)
        (sym made.relations_are) (sym made.numbers_are) no_params (refl {a = 0}) (recursion_from_All (λ l. IsTrue (holds d (values_at new cube.rows ks m.1) l)) cube.literals m.4) in
        let sources = row_sources t (matching ls) (ways ls) in
        let of_cube : AllByRecursion Holds (map (replace (base_before t sources)) cube.literals) =
        hold-before shape (relations ls) [] d v (values_at new (relations ls) (numbers ls) []) (base_before t sources)
        (base-after shape d t good s st c.rows are c.values c.transition more_cells (length t.rows) ls made.placed seen taken in_ls)
        cube.literals (subst (λ (x : List RelId). AllByRecursion (LiteralFits shape x []) cube.literals) (sym made.relations_are) cube_fits) hold_after in
        let g = any_in (AllHold d (values_at s t.rows c.rows c.values)) t.guard guard in
        let disjunct : List Literal = g.0 in
        let of_disjunct : AllByRecursion Holds disjunct =
        subst (AllByRecursion Holds) (unreplaced disjunct)
        (hold-before shape t.rows t.params d v (values_at s t.rows c.rows c.values) base_term (extended-base shape d t good s st c.rows are c.values more_cells)
        disjunct (guard_fits disjunct g.1) (recursion_from_All (λ l. IsTrue (holds d (values_at s t.rows c.rows c.values) l)) disjunct g.2)) in
        let of_ways : AllByRecursion Holds (way_literals shape d t good s st c.rows are c.values (ways ls)) =
        ways-before shape d t good s st c.rows are c.values more_cells (length t.rows) ls made.placed seen made.hold in
        let literals : List Literal = (disjunct ++ way_literals shape d t good s st c.rows are c.values (ways ls)) ++ map (replace (base_before t sources)) cube.literals in
        let all : AllByRecursion Holds literals =
        all-append Holds (disjunct ++ way_literals shape d t good s st c.rows are c.values (ways ls)) (map (replace (base_before t sources)) cube.literals)
        (all-append Holds disjunct (way_literals shape d t good s st c.rows are c.values (ways ls)) of_disjunct of_ways) of_cube in
        let here : Problem = record { rows = relations ls; params = cube.params; literals = cube.literals } in
        let same : here ≡ cube = ap (λ (x : List RelId). record { rows = x; params = cube.params; literals = cube.literals }) made.relations_are in
        let problem : Problem = preimage_problem t here (matching ls) disjunct (ways ls) in
        let meets : Meets d s problem = (
          c.rows ++ more_numbers ls,
          c.values,
          chosen-rows s problem.rows (c.rows ++ more_numbers ls)
              (subst (λ (q : List RelId). AreChosen s (t.rows ++ q) (c.rows ++ more_numbers ls)) (sym (unmatched-relations (length t.rows) ls))
              (chosen-append s t.rows (more_relations ls) c.rows (more_numbers ls) are
              (more-chosen t.rows c.rows t.bulk s ls in_ls) (more-apart t.rows c.rows t.bulk (length t.rows) ls made.placed))),
          elements,
          subst (λ (x : List (List ℕ)). AllHold d (record { vars = s.vars; rows = x; params = c.values }) literals) (sym (all-cells ls))
              (All-from_recursion (λ l. IsTrue (holds d v l)) literals all),
        ) in
        subst (λ (x : Problem). MeetsAny d s (preimage t x)) same
        (in_any (Meets d s) (preimage t here) problem
        (is-preimage t here problem (record {
          m = matching ls;
          disjunct = disjunct;
          ways = ways ls;
          matching = placed-matching t.rows c.rows t.bulk s (length t.rows) [] ls made.placed (none-taken t.rows c.rows t.bulk ls) in_ls;
          in_guard = g.1;
          choices = placed-choices t.rows c.rows t.bulk (length t.rows) ls made.placed;
          problem = refl;
        })) meets)

  -- the choice of these rows and data parameters is a step into the formula
  abbrev choice_of : List ℕ → List ℕ → Choice
  choice_of rows values = record { transition = 0; rows = rows; values = values }

  pub record IsStepInto (rows values : List ℕ) : Type 0 where
    pub step : StepBy d t s (choice_of rows values) (state_after d t s (choice_of rows values))
    pub meets : Meets d (state_after d t s (choice_of rows values)) cube

  -- from a problem of the list to a step into the formula, by its first rows and its data parameters
  by-combination : (p : Problem) (comb : IsCombination t cube p) (m : Meets d s (preimage_problem t cube comb.m comb.disjunct comb.ways))
      → IsStepInto (take (length t.rows) m.0) m.1
  by-combination p comb m =
      let cut = chosen-cut s t.rows (map (λ (q : ℕ × RelId). q.1) (unmatched (length t.rows) cube.rows comb.m)) m.0
      (rows-chosen s (t.rows ++ map (λ (q : ℕ × RelId). q.1) (unmatched (length t.rows) cube.rows comb.m)) m.0 m.2) in
      let found = links-of t.rows cut.ks t.bulk s cut.first (length t.rows) [] cube.rows comb.m comb.ways cut.js comb.matching comb.choices cut.second cut.apart in
      let ls : List Link = found.links in
      let c : Choice = choice_of cut.ks m.1 in
      let front : cut.ks ≡ take (length t.rows) m.0 =
      sym (ap (take (length t.rows)) cut.whole ∙ ap (λ (n : ℕ). take n (cut.ks ++ cut.js)) (sym (chosen-length s t.rows cut.ks cut.first)) ∙ take-append_seam cut.ks cut.js) in
      let rows : AreRows s t.rows c.rows = chosen-rows s t.rows cut.ks cut.first in
      let one : AreChosen s t.rows c.rows = rows-chosen s t.rows c.rows rows in
      let more_cells : List (List ℕ) = cells_of s (more_relations ls) (more_numbers ls) in
      let v : Values = extended shape d t good s st c.rows one c.values more_cells in
      let Holds : Literal → Type 0 = λ l. holds d v l ≡ true in
      let sources = row_sources t (matching ls) (ways ls) in
      let way : List CaseChoice → List Literal = way_literals shape d t good s st c.rows one c.values in
      let moved = move
      (λ (x : List RelId) (y : List (Option ℕ)) (z : List CaseChoice) (u : List ℕ).
      AllHold d (values_at s (t.rows ++ map (λ (q : ℕ × RelId). q.1) (unmatched (length t.rows) x y)) u c.values)
      ((comb.disjunct ++ way z) ++ map (replace (base_before t (row_sources t y z))) cube.literals))
      (sym found.relations_are) (sym found.matching_is) (sym found.ways_are) (cut.whole ∙ ap (λ (x : List ℕ). cut.ks ++ x) (sym found.more_are)) m.4 in
      let literals : List Literal = (comb.disjunct ++ way (ways ls)) ++ map (replace (base_before t sources)) cube.literals in
      let all : AllByRecursion Holds literals =
      recursion_from_All (λ l. IsTrue (holds d v l)) literals
      (subst (λ (x : List (List ℕ)). AllHold d (record { vars = s.vars; rows = x; params = c.values }) literals) (all-cells c rows m.3 ls) moved) in
      let first = all-parts Holds (comb.disjunct ++ way (ways ls)) (map (replace (base_before t sources)) cube.literals) all in
      let second = all-parts Holds comb.disjunct (way (ways ls)) first.0 in
      let of_disjunct : AllByRecursion (λ l. holds d (values_at s t.rows c.rows c.values) l ≡ true) comb.disjunct =
      hold-after shape t.rows t.params d v (values_at s t.rows c.rows c.values) base_term (extended-base shape d t good s st c.rows one c.values more_cells)
      comb.disjunct (guard_fits comb.disjunct comb.in_guard) (subst (AllByRecursion Holds) (sym (unreplaced comb.disjunct)) second.0) in
      let seen = placed-seen shape d t good s st c.rows one c.values (length t.rows) ls (cells_of s t.rows c.rows) (length-cells s t.rows c.rows (chosen-length s t.rows c.rows one)) found.placed in
      let are_true = ways-after shape d t good s st c.rows one c.values more_cells (length t.rows) ls found.placed seen second.1 in
      let taken = true-taken shape d t good s st c.rows one c.values (length t.rows) ls found.placed are_true in
      let in_ls : AreChosen s (relations ls) (numbers ls) =
      all-chosen t.rows c.rows t.bulk s (length t.rows) [] ls one found.placed
      (subst (λ (x : List (Option ℕ)). IsMatching t.rows (relations ls) [] x) (sym found.matching_is) (subst (λ (x : List RelId). IsMatching t.rows x [] comb.m) (sym found.relations_are) comb.matching))
      (move (λ (x : List RelId) (y : List (Option ℕ)) (z : List ℕ) (u : List RelId). AreChosen s u z)
      (refl {a = []}) (refl {a = []}) (sym found.more_are)
      (ap (λ (x : List RelId). map (λ (q : ℕ × RelId). q.1) (unmatched (length t.rows) x comb.m)) (sym found.relations_are)
      ∙ ap (λ (x : List (Option ℕ)). map (λ (q : ℕ × RelId). q.1) (unmatched (length t.rows) (relations ls) x)) (sym found.matching_is)
      ∙ unmatched-relations (length t.rows) ls)
      cut.second) in
      let new : State = state_after d t s c in
      let after : AllByRecursion (λ l. holds d (values_at new (relations ls) (numbers ls) []) l ≡ true) cube.literals =
      hold-after shape (relations ls) [] d v (values_at new (relations ls) (numbers ls) []) (base_before t sources)
      (base-after shape d t good s st c.rows one c.values 0 more_cells (length t.rows) ls found.placed seen taken in_ls)
      cube.literals (subst (λ (x : List RelId). AllByRecursion (LiteralFits shape x []) cube.literals) (sym found.relations_are) cube_fits) first.1 in
      let after_here : AllByRecursion (λ l. holds d (values_at new cube.rows (numbers ls) []) l ≡ true) cube.literals =
      subst (λ (x : List RelId). AllByRecursion (λ l. holds d (values_at new x (numbers ls) []) l ≡ true) cube.literals) found.relations_are after in
      let rows_here : AreRows s cube.rows (numbers ls) = chosen-rows s cube.rows (numbers ls) (subst (λ (x : List RelId). AreChosen s x (numbers ls)) found.relations_are in_ls) in
      subst (λ (x : List ℕ). IsStepInto x m.1) front
      (record {
        step = record {
          rows = rows;
          params = m.3;
          guard = in_any (AllHold d (values_at s t.rows c.rows c.values)) t.guard comb.disjunct comb.in_guard
              (All-from_recursion (λ l. IsTrue (holds d (values_at s t.rows c.rows c.values) l)) comb.disjunct of_disjunct);
          after = refl;
        };
        meets = (
          numbers ls,
          [],
          rows-after c rows m.3 (numbers ls) rows_here,
          record { as_many = sym (ap length flat.none); each = λ k u known. absurd (no_sort k u known) },
          All-from_recursion (λ l. IsTrue (holds d (values_at new cube.rows (numbers ls) []) l)) cube.literals after_here,
        );
      })
    where
      no_sort : (k : ℕ) (u : SortId) → slice_get cube.params k ≡ Some u → ⊥
      no_sort k u known = let none : slice_get [] k ≡ Some u = subst (λ (x : List SortId). slice_get x k ≡ Some u) flat.none known in absurd (cc)

  pub by-problem : (p : Problem) → In p (preimage t cube) → (m : Meets d s p) → IsStepInto (take (length t.rows) m.0) m.1
  by-problem p i =
      let comb = preimage-is t cube p i in
      subst (λ (q : Problem). (m : Meets d s q) → IsStepInto (take (length t.rows) m.0) m.1) comb.problem (by-combination p comb)

  backwards : MeetsAny d s (preimage t cube) → LeadsBy d s t cube
  backwards h =
      let p = any_in (Meets d s) (preimage t cube) h in
      let leads = by-problem p.0 p.1 p.2 in
      record { choice = choice_of (take (length t.rows) p.2.0) p.2.1; next = _; step = leads.step; meets = leads.meets }

  pub exact : LeadsBy d s t cube ↔ MeetsAny d s (preimage t cube)
  exact = (
    (λ h. forwards h.choice h.step.rows h.step.params h.step.guard (subst (λ (x : State). Meets d x cube) h.step.after h.meets)),
    backwards,
  )
