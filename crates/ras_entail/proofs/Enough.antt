-- Which instances a scan of a list finds.
use Rattle.std.proofs.Common.{◌≡◌, ℕ, ◌+◌, ◌<◌, ◌≤◌, List, [], ◌∷◌, ◌++◌, length, get_or, false, refl, sym, ◌∙◌, ap, subst, arith, ◌⊎◌, inl, inr, ⊎_elim}
use Rattle.std.specs.Prelude.{slice_get, Option, Some, None, MatchOption, Contains}
use Rattle.std.specs.Option.{is_some}
use Rattle.std.proofs.lemmas.List.Elements.{All-contains, Contains-get_or, Contains-append_left, Contains-push, Contains-push_cases}
use Rattle.std.proofs.lemmas.Option.{slice_get_within, same_Some}
use Rattle.ras_logic.specs.declared.problem.Problem.{Problem}
use Rattle.ras_logic.specs.Shapes.{ShapeParts}
use Rattle.ras_logic.specs.Refutations.{AreRowsOf}
use Rattle.ras_sat.specs.declared.instance.Instance.{Instance}
use Rattle.ras_sat.specs.Instances.{IsInstance, IsFalsified}
use Rattle.ras_entail.specs.Judgements.{HasFailing}
use Rattle.ras_row_maps.specs.RowMaps.{AreRowMaps}
use Rattle.ras_entail.specs.Scans.{FailsUnder, instance, AddsMap, AddsMaps, AddsInstances, IsHeld, IsHeldIn, AreEnoughBelow, AreEnough}
use Rattle.ras_entail.proofs.FailingLiterals.{fails-falsified, alone-fails}
use Rattle.ras_row_maps.proofs.ListPairs.{place_cases}

pub of-none : {X : Type 0} (o : Option X) (A : Type 0) (B : X → Type 0) → is_some o ≡ false → MatchOption o A B → A
of-none None A B e h = h
of-none (Some x) A B e h = absurd (cc)

module _ (shape : ShapeParts) (premise cube : Problem) (formula : ℕ) where
  -- an instance is added, or fails and is left out
  pub map-added : (rows : List ℕ) (old new : List Instance) → new ≡ old ++ instance formula rows ∷ [] → AddsMap shape premise cube formula rows old new
  map-added rows old new is = record {
    each = λ i inside.
        ⊎_elim inl (λ (e : instance formula rows ≡ i). inr (sym e)) (Contains-push_cases old (instance formula rows) i (subst (λ (xs : List Instance). Contains xs i) is inside));
    kept = λ i inside. subst (λ (xs : List Instance). Contains xs i) (sym is) (Contains-append_left old (instance formula rows ∷ []) i inside);
    found = inl (subst (λ (xs : List Instance). Contains xs (instance formula rows)) (sym is) (Contains-push old (instance formula rows)));
  }

  pub map-fails : (rows : List ℕ) (old new : List Instance) → new ≡ old → FailsUnder shape premise cube rows → AddsMap shape premise cube formula rows old new
  map-fails rows old new is fails = record {
    each = λ i inside. inl (subst (λ (xs : List Instance). Contains xs i) is inside);
    kept = λ i inside. subst (λ (xs : List Instance). Contains xs i) (sym is) inside;
    found = inr fails;
  }

  pub maps-none : (old : List Instance) → AddsMaps shape premise cube formula [] old old
  maps-none old = record { each = λ i inside. inl inside; kept = λ i inside. inside; found = λ rows h. absurd (omega (arith, h.1)) }

  pub maps-more : (maps : List (List ℕ)) (rows : List ℕ) (old mid new : List Instance) → AddsMaps shape premise cube formula maps old mid → AddsMap shape premise cube formula rows mid new
      → AddsMaps shape premise cube formula (maps ++ rows ∷ []) old new
  maps-more maps rows old mid new before adds = record {
    each = λ i inside.
        ⊎_elim
        (λ (h : Contains mid i).
        ⊎_elim inl (λ (r : (rs : List ℕ) × Contains maps rs × (i ≡ instance formula rs)). inr (r.0, Contains-append_left maps (rows ∷ []) r.0 r.1, r.2)) (before.each i h))
        (λ (e : i ≡ instance formula rows). inr (rows, Contains-push maps rows, e)) (adds.each i inside);
    kept = λ i inside. adds.kept i (before.kept i inside);
    found = λ rs h.
        ⊎_elim
        (λ (earlier : Contains maps rs). ⊎_elim (λ (k : Contains mid (instance formula rs)). inl (adds.kept (instance formula rs) k)) inr (before.found rs earlier))
        (λ (e : rows ≡ rs). subst (λ (r : List ℕ). Contains new (instance formula r) ⊎ FailsUnder shape premise cube r) e adds.found)
        (Contains-push_cases maps rows rs h);
  }

module _ (shape : ShapeParts) (premise : Problem) (list : List Problem) where
  -- the instances of all row maps of a cube are added, all but such as fail
  pub maps-added : (number : ℕ) (cube : Problem) (maps : List (List ℕ)) (old new : List Instance) → slice_get list number ≡ Some cube → AreRowMaps cube.rows premise.rows maps
      → AddsMaps shape premise cube number maps old new → AddsInstances shape premise list number old new
  maps-added number cube maps old new known are adds = record {
    each = λ i inside.
        ⊎_elim inl
        (λ (r : (rows : List ℕ) × Contains maps rows × (i ≡ instance number rows)).
        inr (subst (IsInstance premise.rows list) (sym r.2) (record { formula = cube; known = known; rows_of = All-contains (AreRowsOf premise.rows cube.rows) maps r.0 are.each r.1 })))
        (adds.each i inside);
    kept = adds.kept;
    every = λ i of e d v db sat.
        let same : of.formula ≡ cube = same_Some of.formula cube (sym of.known ∙ ap (λ (k : ℕ). slice_get list k) e ∙ known) in
        let rows : AreRowsOf premise.rows cube.rows i.rows = subst (λ (p : Problem). AreRowsOf premise.rows p.rows i.rows) same of.rows_of in
        subst (λ (k : ℕ). Contains new (instance k i.rows) ⊎ IsFalsified d v list (instance k i.rows)) (sym e)
        (⊎_elim inl (λ (fails : FailsUnder shape premise cube i.rows). inr (fails-falsified shape premise list cube number i.rows known fails d v db sat)) (adds.found i.rows (are.every i.rows rows)));
  }

  -- a cube of which a literal fails whichever rows are chosen adds nothing
  pub none-added : (number : ℕ) (cube : Problem) (old : List Instance) → slice_get list number ≡ Some cube → HasFailing shape premise cube → AddsInstances shape premise list number old old
  none-added number cube old known fails = record {
    each = λ i inside. inl inside;
    kept = λ i inside. inside;
    every = λ i of e d v db sat.
        subst (λ (k : ℕ). Contains old (instance k i.rows) ⊎ IsFalsified d v list (instance k i.rows)) (sym e)
        (inr (fails-falsified shape premise list cube number i.rows known (alone-fails shape premise list cube fails i.rows) d v db sat));
  }

  -- what a scan of a cube's maps means for the list
  pub cube-scanned : (number : ℕ) (cube : Problem) (maps : List (List ℕ)) (old new : List Instance) → slice_get list number ≡ Some cube → AreRowMaps cube.rows premise.rows maps
      → (o : Option Instance) → MatchOption o (AddsMaps shape premise cube number maps old new) (IsHeld shape premise cube number)
      → MatchOption o (AddsInstances shape premise list number old new) (IsHeldIn shape premise list)
  cube-scanned number cube maps old new known are None h = maps-added number cube maps old new known are h
  cube-scanned number cube maps old new known are (Some i) h =
      (cube, subst (λ (k : ℕ). slice_get list k ≡ Some cube) (sym h.of_formula) known, record { of_formula = refl; rows_of = h.rows_of; holds = h.holds })

  pub enough-none : AreEnoughBelow shape premise list 0 []
  enough-none = record { each = λ k d lt. absurd (omega (arith, lt)); every = λ i of lt. absurd (omega (arith, lt)) }

  pub enough-more : (number : ℕ) (old new : List Instance) → AreEnoughBelow shape premise list number old → AddsInstances shape premise list number old new
      → AreEnoughBelow shape premise list (number + 1) new
  enough-more number old new are adds = record {
    each = λ k d lt.
        ⊎_elim (λ (h : Contains old (get_or new k d)). All-contains (IsInstance premise.rows list) old (get_or new k d) are.each h) (λ (h : IsInstance premise.rows list (get_or new k d)). h)
        (adds.each (get_or new k d) (Contains-get_or new k d lt));
    every = λ i of lt.
        ⊎_elim
        (λ (below : i.formula < number) d v db sat. ⊎_elim (λ h. inl (adds.kept i h)) inr (are.every i of below d v db sat))
        (λ (e : i.formula ≡ number). adds.every i of e) (place_cases i.formula number lt);
  }

  pub enough-all : (number : ℕ) (found : List Instance) → length list ≤ number → AreEnoughBelow shape premise list number found → AreEnough shape premise list found
  enough-all number found le are = record {
    each = are.each;
    every = λ d v db sat falsified i of.
        ⊎_elim (λ (h : Contains found i). All-contains (IsFalsified d v list) found i falsified h) (λ (h : IsFalsified d v list i). h)
        (are.every i of (let lt : i.formula < length list = slice_get_within list i.formula of.formula of.known in omega (arith, lt, le)) d v db sat);
  }
