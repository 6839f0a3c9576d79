-- A violation has one text.
use Rattle.std.proofs.Common.{◌≡◌, ℕ, zero, suc, ◌<◌, List, [], ◌∷◌, ◌++◌, length, take, get_or, refl, sym, ◌∙◌, ap, subst, arith, ◌⊎◌, inl, inr}
use Rattle.std.specs.Prelude.{slice_get, Some, All}
use Rattle.std.proofs.lemmas.Option.{same_Some, slice_get_within, get_or_from_slice_get}
use Rattle.std.proofs.lemmas.Bool.{cases_order}
use Rattle.std.proofs.lemmas.List.{get_or-take, length-take-le}
use Rattle.ras_logic.specs.declared.raw_db.RawDb.{RawDb}
use Rattle.ras_logic.specs.declared.ids.SortId.{SortId}
use Rattle.ras_logic.specs.declared.problem.Problem.{Problem}
use Rattle.ras_logic.specs.Formulas.{IsCube}
use Rattle.ras_logic.specs.Truth.{AreElements}
use Rattle.ras_system.specs.declared.state.State.{State}
use Rattle.ras_system.specs.Systems.{SystemParts}
use Rattle.ras_system.specs.States.{Meets}
use Rattle.ras_steps.specs.declared.run.Run.{Run}
use Rattle.ras_steps.specs.Choosing.{MeetsBy, ComesBefore, IsFirstChoice}
use Rattle.ras_violation.specs.Violations.{IsFirstMet}
use Rattle.ras_violation.specs.ReplayTexts.{state_lines, goal_line, IsReplayText}
use Rattle.ras_violation.proofs.Paths.{one_run}

same_lists : {A : Type 0} (xs ys : List A) → length xs ≡ length ys → ((k : ℕ) (x y : A) → slice_get xs k ≡ Some x → slice_get ys k ≡ Some y → x ≡ y) → xs ≡ ys
same_lists [] [] long each = refl
same_lists [] (y ∷ ys) long each = absurd (omega (arith, long))
same_lists (x ∷ xs) [] long each = absurd (omega (arith, long))
same_lists (x ∷ xs) (y ∷ ys) long each =
    ap (λ (z : _). z ∷ xs) (each zero x y refl refl) ∙ ap (λ (zs : List _). y ∷ zs) (same_lists xs ys (omega (arith, long)) (λ k v w known there. each (suc k) v w known there))

-- lexicographic order tells two lists of one length apart
later : (x y : ℕ) (xs ys : List ℕ) → x ≡ y → ComesBefore xs ys → ComesBefore (x ∷ xs) (y ∷ ys)
later x y xs ys e before = record {
  place = suc before.place;
  within = let lt : before.place < length xs = before.within in omega (arith, lt);
  same = ap (λ (z : ℕ). z ∷ take before.place xs) e ∙ ap (λ (zs : List ℕ). y ∷ zs) before.same;
  smaller = before.smaller;
}

first_difference : (xs ys : List ℕ) → length xs ≡ length ys → (xs ≡ ys) ⊎ (ComesBefore xs ys ⊎ ComesBefore ys xs)
first_difference [] [] long = inl refl
first_difference [] (y ∷ ys) long = absurd (omega (arith, long))
first_difference (x ∷ xs) [] long = absurd (omega (arith, long))
first_difference (x ∷ xs) (y ∷ ys) long = go (cases_order x y) (first_difference xs ys (omega (arith, long)))
  where
    go : (x ≡ y) ⊎ ((x < y) ⊎ (y < x)) → (xs ≡ ys) ⊎ (ComesBefore xs ys ⊎ ComesBefore ys xs) → (x ∷ xs ≡ y ∷ ys) ⊎ (ComesBefore (x ∷ xs) (y ∷ ys) ⊎ ComesBefore (y ∷ ys) (x ∷ xs))
    go (inr (inl lt)) rest = inr (inl (record { place = 0; within = omega arith; same = refl; smaller = lt }))
    go (inr (inr lt)) rest = inr (inr (record { place = 0; within = omega arith; same = refl; smaller = lt }))
    go (inl e) (inl same) = inl (ap (λ (z : ℕ). z ∷ xs) e ∙ ap (λ (zs : List ℕ). y ∷ zs) same)
    go (inl e) (inr (inl before)) = inr (inl (later x y xs ys e before))
    go (inl e) (inr (inr before)) = inr (inr (later y x ys xs (sym e) before))

one_choice : (d : RawDb) (s : State) (p : Problem) (rows others : List ℕ) → IsFirstChoice d s p rows → IsFirstChoice d s p others → rows ≡ others
one_choice d s p rows others g h = go (first_difference rows others (g.meets.rows.as_many ∙ sym h.meets.rows.as_many))
  where
    go : (rows ≡ others) ⊎ (ComesBefore rows others ⊎ ComesBefore others rows) → rows ≡ others
    go (inl e) = e
    go (inr (inl before)) = absurd (h.first rows g.meets before)
    go (inr (inr before)) = absurd (g.first others h.meets before)

-- a cube that is met by rows is met
meets_of : (d : RawDb) (s : State) (p : Problem) (rows : List ℕ) → IsCube p → MeetsBy d s p rows → Meets d s p
meets_of d s p rows cube by = (rows, [], by.rows, subst (λ (params : List SortId). AreElements d params []) (sym cube.none) none, by.literals)
  where
    none : AreElements d [] []
    none = record { as_many = refl; each = λ k sort known. absurd (cc) }

module _ (d : RawDb) (s : State) (goals : List Problem) (cubes : All IsCube goals) where
  no_later : (j k : ℕ) (rows others : List ℕ) → IsFirstMet d s goals j rows → IsFirstMet d s goals k others → ¬ j < k
  no_later j k rows others g h lt =
      let within : j < length goals = slice_get_within goals j g.goal g.known in
      let end : k < length goals = slice_get_within goals k h.goal h.known in
      let read : get_or goals j g.goal ≡ g.goal = get_or_from_slice_get goals j g.goal g.goal g.known in
      let front : get_or (take k goals) j g.goal ≡ g.goal = get_or-take k goals j g.goal lt ∙ read in
      let long : length (take k goals) ≡ k = length-take-le k goals (omega (arith, end)) in
      h.before j g.goal (omega (arith, lt, long)) (subst (Meets d s) (sym front) (meets_of d s g.goal rows (subst IsCube read (cubes j g.goal within)) g.first.meets))

  one_goal : (j k : ℕ) (rows others : List ℕ) → IsFirstMet d s goals j rows → IsFirstMet d s goals k others → j ≡ k
  one_goal j k rows others g h = go (cases_order j k)
    where
      go : (j ≡ k) ⊎ ((j < k) ⊎ (k < j)) → j ≡ k
      go (inl e) = e
      go (inr (inl lt)) = absurd (no_later j k rows others g h lt)
      go (inr (inr lt)) = absurd (no_later k j others rows h g lt)

  one_met : (j k : ℕ) (rows others : List ℕ) → IsFirstMet d s goals j rows → IsFirstMet d s goals k others → goal_line j rows ≡ goal_line k others
  one_met j k rows others g h =
      let same : j ≡ k = one_goal j k rows others g h in
      let goal : g.goal ≡ h.goal = same_Some g.goal h.goal (sym g.known ∙ ap (slice_get goals) same ∙ h.known) in
      ap (λ (n : ℕ). goal_line n rows) same
      ∙ ap (goal_line k) (one_choice d s h.goal rows others (subst (λ (p : Problem). IsFirstChoice d s p rows) goal g.first) h.first)

pub one_text : (system : SystemParts) (d : RawDb) (run : Run) (text other : List ℕ) → All IsCube system.goals → IsReplayText system d run text → IsReplayText system d run other → text ≡ other
one_text system d run text other cubes g h =
    let states : g.states ≡ h.states = same_lists g.states h.states (g.in_order.as_many ∙ sym h.in_order.as_many)
    (λ k s t known there. one_run system d run.start (take k run.choices) s t (g.in_order.each k s known) (h.in_order.each k t there)) in
    let last : g.last ≡ h.last = same_Some g.last h.last (sym g.ends ∙ ap (λ (ss : List State). slice_get ss (length run.choices)) states ∙ h.ends) in
    g.reads
    ∙ ap (λ (ss : List State). state_lines 0 ss ++ goal_line g.goal g.rows) states
    ∙ ap (λ (line : List ℕ). state_lines 0 h.states ++ line)
    (one_met d h.last system.goals cubes g.goal h.goal g.rows h.rows (subst (λ (s : State). IsFirstMet d s system.goals g.goal g.rows) last g.met) h.met)
    ∙ sym h.reads
