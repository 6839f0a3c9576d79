-- The preimage of a cube under a transition: a list of problems, in the order of the choices that lead to them.
use Rattle.std.specs.Prelude.{ℕ, ◌+◌, true, false, not, ◌&&◌, List, [], ◌∷◌, ◌++◌, map, length, get_or, nat_eq, Option, Some, None, option_and_then, option_map, unwrap_or, filter, flat_map}
use Rattle.std.specs.List.{list_any, enumerate_from}
use Rattle.ras_logic.specs.declared.ids.RelId.{RelId}
use Rattle.ras_logic.specs.declared.term.Base.{Base}
use Rattle.ras_logic.specs.declared.term.Base.TheVariants.{Var, Cell}
use Rattle.ras_logic.specs.declared.term.Term.{Term}
use Rattle.ras_logic.specs.declared.literal.Literal.{Literal}
use Rattle.ras_logic.specs.declared.problem.Problem.{Problem}
use Rattle.ras_logic.specs.Terms.{base_term, replace_term}
use Rattle.ras_logic.specs.Formulas.{negated, replace}
use Rattle.ras_system.specs.declared.bulk.Bulk.{Bulk}
use Rattle.ras_system.specs.declared.transition.Transition.{Transition}
use Rattle.ras_system.specs.Steps.{term_for_var, term_for_cell, term_for_column}

-- the row of one number gets another number
abbrev pub renumbered_row : ℕ → ℕ → Base → Term
renumbered_row from to (Cell row column) = elim (nat_eq row from) [ true ↦ base_term (Cell to column) | false ↦ base_term (Cell row column) ]
renumbered_row from to b = base_term b

-- Choice 1. What matches each cube row: a row parameter of its relation that no earlier row has taken, or at last none.
abbrev pub free_row_params : List RelId → RelId → List ℕ → List ℕ
free_row_params params r taken =
    map (λ (p : ℕ × RelId). p.0) (filter (λ (p : ℕ × RelId). nat_eq p.1.n r.n && not (list_any (nat_eq p.0) taken)) (enumerate_from 0 params))

abbrev pub matchings : List RelId → List RelId → List ℕ → List (List (Option ℕ))
matchings params [] taken = [] ∷ []
matchings params (r ∷ rows) taken =
    flat_map (λ (p : ℕ). map (λ (m : List (Option ℕ)). Some p ∷ m) (matchings params rows (p ∷ taken))) (free_row_params params r taken)
    ++ map (λ (m : List (Option ℕ)). None ∷ m) (matchings params rows taken)

-- the unmatched cube rows, with their numbers in the problem
abbrev pub unmatched : ℕ → List RelId → List (Option ℕ) → List (ℕ × RelId)
unmatched n [] m = []
unmatched n (r ∷ rows) [] = []
unmatched n (r ∷ rows) (Some p ∷ m) = unmatched n rows m
unmatched n (r ∷ rows) (None ∷ m) = (n, r) ∷ unmatched (n + 1) rows m

-- Choice 3. The bulk case that an unmatched row takes, or none, and the literals that hold of it then: one literal of each
-- case before it fails, and its condition holds.
pub record CaseChoice : Type 0 where
  pub number : ℕ
  pub takes : Option Bulk
  pub literals : List Literal

-- the negation of one literal of the condition of each case
abbrev pub refusals : List Bulk → List (List Literal)
refusals [] = [] ∷ []
refusals (b ∷ before) = flat_map (λ (l : Literal). map (λ (ls : List Literal). negated l ∷ ls) (refusals before)) b.condition

-- the cases that are left in order, each after those before it, and last none
abbrev pub case_choices_from : ℕ → List Bulk → List Bulk → List CaseChoice
case_choices_from n before [] = map (λ (ls : List Literal). record { number = n; takes = None; literals = ls }) (refusals before)
case_choices_from n before (b ∷ later) =
    map (λ (ls : List Literal). record { number = n; takes = Some b; literals = ls ++ b.condition }) (refusals before)
    ++ case_choices_from n (before ++ b ∷ []) later

-- one choice for each unmatched row
abbrev pub case_choices : List Bulk → List (ℕ × RelId) → List (List CaseChoice)
case_choices bulk [] = [] ∷ []
case_choices bulk (q ∷ rows) =
    flat_map (λ (w : CaseChoice). map (λ (ws : List CaseChoice). w ∷ ws) (case_choices bulk rows)) (case_choices_from q.0 [] (filter (λ (b : Bulk). nat_eq b.relation.n q.1.n) bulk))

-- where a cube row's cells come from: the row's number in the problem, and the term assigned to a column, if there is one
pub record RowSource : Type 0 where
  pub number : ℕ
  pub term_for : ℕ → Option Term

-- the term that a case assigns speaks of the updated row, which gets the row's number in the problem
abbrev pub source_of_choice : ℕ → CaseChoice → RowSource
source_of_choice k w = record {
  number = w.number;
  term_for = λ (column : ℕ). option_map (replace_term (renumbered_row k w.number)) (option_and_then (λ (b : Bulk). term_for_column b.assigns column) w.takes);
}

-- the source of each cube row
abbrev pub row_sources : Transition → List (Option ℕ) → List CaseChoice → List RowSource
row_sources t [] ways = []
row_sources t (Some p ∷ m) ways = record { number = p; term_for = term_for_cell t.updates p } ∷ row_sources t m ways
row_sources t (None ∷ m) [] = []
row_sources t (None ∷ m) (w ∷ ways) = source_of_choice (length t.rows) w ∷ row_sources t m ways

-- what a base of the cube, read after the step, was before it
abbrev pub base_before : Transition → List RowSource → Base → Term
base_before t rows (Var v) = unwrap_or (term_for_var t.updates v.n) (base_term (Var v))
base_before t rows (Cell row column) =
    let s : RowSource = get_or rows row (record { number = row; term_for = λ _. None }) in unwrap_or (s.term_for column) (base_term (Cell s.number column))
base_before t rows b = base_term b

-- the problem of one combination of choices
abbrev pub preimage_problem : Transition → Problem → List (Option ℕ) → List Literal → List CaseChoice → Problem
preimage_problem t cube m disjunct ways = record {
  rows = t.rows ++ map (λ (q : ℕ × RelId). q.1) (unmatched (length t.rows) cube.rows m);
  params = t.params;
  literals = disjunct
      ++ flat_map (λ (w : CaseChoice). map (replace (renumbered_row (length t.rows) w.number)) w.literals) ways
      ++ map (replace (base_before t (row_sources t m ways))) cube.literals;
}

-- the problems of a preimage, in order
abbrev pub preimage : Transition → Problem → List Problem
preimage t cube =
    flat_map (λ (m : List (Option ℕ)). flat_map (λ (disjunct : List Literal).
    map (preimage_problem t cube m disjunct) (case_choices t.bulk (unmatched (length t.rows) cube.rows m)))
    t.guard) (matchings t.rows cube.rows [])
