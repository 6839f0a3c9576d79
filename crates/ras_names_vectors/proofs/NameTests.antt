-- Tests of declared names, and what it means that they pass.
use Rattle.std.proofs.Common.{◌≡◌, ℕ, Bool, true, List, [], ◌++◌}
use Rattle.std.specs.Prelude.{not, ◌&&◌, Contains}
use Rattle.std.specs.List.{list_all, list_any}
use Rattle.std.specs.Str.{bytes_eq}
use Rattle.std.proofs.lemmas.Bool.{and_parts}
use Rattle.std.proofs.lemmas.Cmp.{nat_list_eq_equiv}
use Rattle.std.proofs.lemmas.Map.Views.{list_any-from_Contains}
use Rattle.std.proofs.lemmas.Slice.Eq.{bytes_eq-Decides}
use Rattle.ras_syntax.specs.Grammar.{Text}
use Rattle.ras_names.specs.declared.names.RelNames.{RelNames}
use Rattle.ras_names.specs.declared.names.StepNames.{StepNames}
use Rattle.ras_names.specs.declared.names.GoalNames.{GoalNames}
use Rattle.ras_names.specs.declared.names.Names.{Names}
use Rattle.ras_names.specs.Lists.{AreDifferent}
use Rattle.ras_names.specs.NewNames.{shared_names, above_step, AreNew, AreNewNames}
use Rattle.ras_vectors.proofs.ListTests.{each, each-at, all_pairs, all_pairs-AllPairs, list_all-All, not-true}

abbrev differ : Text → Text → Bool
differ m n = not (bytes_eq m n)

abbrev are_different : List Text → Bool
are_different names = all_pairs differ names

are_different-passed : (names : List Text) → are_different names ≡ true → AreDifferent names
are_different-passed names h = all_pairs-AllPairs differ (λ m n. m ≡ n → ⊥) (λ m n d e. not-true (bytes_eq m n) d ((bytes_eq-Decides m n).1 e)) names h

abbrev is_new : List Text → Text → Bool
is_new names name = not (list_any (bytes_eq name) names)

is_new-passed : (names : List Text) (name : Text) → is_new names name ≡ true → Contains names name → ⊥
is_new-passed names name h c = not-true (list_any (bytes_eq name) names) h (list_any-from_Contains nat_list_eq_equiv name names c)

abbrev are_new : List Text → List Text → List Text → Bool
are_new above own each_rows = are_different (above ++ own) && list_all (is_new (above ++ own)) each_rows

are_new-passed : (above own each_rows : List Text) → are_new above own each_rows ≡ true → AreNew above own each_rows
are_new-passed above own each_rows h =
    let t = and_parts (are_different (above ++ own)) (list_all (is_new (above ++ own)) each_rows) h in record {
      own_names = are_different-passed (above ++ own) t.0;
      each_rows = list_all-All (is_new (above ++ own)) (λ row. Contains (above ++ own) row → ⊥) (is_new-passed (above ++ own)) each_rows t.1;
    }

abbrev step_is_new : Names → ℕ → StepNames → Bool
step_is_new names k s = are_new (above_step names k) (s.rows ++ s.params) s.each

abbrev goal_is_new : Names → GoalNames → Bool
goal_is_new names g = are_new (shared_names names names.steps) g.rows []

abbrev pub are_new_names : Names → Bool
are_new_names names = are_different (shared_names names names.steps) && (list_all (λ (r : RelNames). are_different r.columns) names.relations
    && (each (step_is_new names) names.steps && list_all (goal_is_new names) names.goals))

pub are_new_names-passed : (names : Names) → are_new_names names ≡ true → AreNewNames names
are_new_names-passed names h =
    let columns : Bool = list_all (λ (r : RelNames). are_different r.columns) names.relations in
    let steps : Bool = each (step_is_new names) names.steps in
    let goals : Bool = list_all (goal_is_new names) names.goals in
    let t = and_parts (are_different (shared_names names names.steps)) (columns && (steps && goals)) h in
    let u = and_parts columns (steps && goals) t.1 in
    let v = and_parts steps goals u.1 in record {
      shared = are_different-passed (shared_names names names.steps) t.0;
      columns = list_all-All (λ (r : RelNames). are_different r.columns) (λ (r : RelNames). AreDifferent r.columns) (λ r. are_different-passed r.columns) names.relations u.0;
      steps = λ k s e. are_new-passed (above_step names k) (s.rows ++ s.params) s.each (each-at (step_is_new names) names.steps v.0 k s e);
      goals = list_all-All (goal_is_new names) (λ (g : GoalNames). AreNew (shared_names names names.steps) g.rows []) (λ g. are_new-passed (shared_names names names.steps) g.rows []) names.goals v.1;
    }
