-- The parts of the list of a preimage, as the program keeps them.
use Rattle.std.specs.Prelude.{ℕ, List, [], ◌∷◌, ◌++◌, map, slice_get, Option, Some, None, option_and_then, option_map, unwrap_or, length, flat_map}
use Rattle.ras_logic.specs.declared.ids.RelId.{RelId}
use Rattle.ras_logic.specs.declared.ids.FunId.{FunId}
use Rattle.ras_logic.specs.declared.term.Base.TheVariants.{Cell}
use Rattle.ras_logic.specs.declared.term.Term.{Term}
use Rattle.ras_logic.specs.declared.literal.Literal.{Literal}
use Rattle.ras_logic.specs.declared.problem.Problem.{Problem}
use Rattle.ras_logic.specs.Terms.{base_term, replace_term}
use Rattle.ras_logic.specs.Formulas.{replace, negated}
use Rattle.ras_system.specs.declared.bulk.Bulk.{Bulk}
use Rattle.ras_system.specs.declared.transition.Transition.{Transition}
use Rattle.ras_system.specs.Steps.{term_for_cell, term_for_column}
use Rattle.ras_system.specs.Preimages.{renumbered_row, free_row_params, unmatched, CaseChoice, case_choices, RowSource, base_before, preimage_problem}
use Rattle.ras_preimage.specs.declared.matching.Matching.{Matching}
use Rattle.ras_preimage.specs.declared.ways.Way.{Way}
use Rattle.ras_preimage.specs.declared.unmatched_rows.UnmatchedRow.{UnmatchedRow}
use Rattle.ras_preimage.specs.declared.sources.Source.{Source}
use Rattle.ras_preimage.specs.declared.sources.Source.TheVariants.{Parameter, Row}

-- a matching with one row more, which a row parameter matches, or none
abbrev pub matched_by : Matching → ℕ → Matching
matched_by x p = record { matched = x.matched ++ Some p ∷ []; taken = p ∷ x.taken }

abbrev pub not_matched : Matching → Matching
not_matched x = record { matched = x.matched ++ None ∷ []; taken = x.taken }

abbrev pub next_matchings : List RelId → RelId → Matching → List Matching
next_matchings params r x = map (matched_by x) (free_row_params params r x.taken) ++ not_matched x ∷ []

-- an unmatched row as the definition has it
abbrev pub row_of : UnmatchedRow → ℕ × RelId
row_of u = (u.number, u.relation)

-- the choice that a way stands for
abbrev pub way_of : List Bulk → Way → CaseChoice
way_of bulk w = record { number = w.number; takes = option_and_then (slice_get bulk) w.case; literals = w.literals }

-- a choice with its literals as the problem has them
abbrev pub in_problem : ℕ → CaseChoice → CaseChoice
in_problem k w = record { number = w.number; takes = w.takes; literals = map (replace (renumbered_row k w.number)) w.literals }

-- the source that is kept as a number and a case
abbrev pub source_of : Transition → ℕ → Source → RowSource
source_of t k (Parameter p) = record { number = p; term_for = term_for_cell t.updates p }
source_of t k (Row number case) = record {
  number = number;
  term_for = λ (column : ℕ). option_map (replace_term (renumbered_row k number)) (option_and_then (λ (b : Bulk). term_for_column b.assigns column) (option_and_then (slice_get t.bulk) case));
}

-- the negations of one literal more
abbrev pub refused_too : ℕ → ℕ → List Literal → List Literal → List (List Literal)
refused_too from to condition ls = map (λ (l : Literal). ls ++ negated (replace (renumbered_row from to) l) ∷ []) condition

-- the case of that number, taken
abbrev pub taken : ℕ → ℕ → ℕ → List Literal → List Literal → Way
taken from number case condition ls = record { number = number; case = Some case; literals = ls ++ map (replace (renumbered_row from number)) condition }

-- no case, taken
abbrev pub taking_none : ℕ → List Literal → Way
taking_none number ls = record { number = number; case = None; literals = ls }

-- the term of a column of a source
abbrev pub source_term : RowSource → ℕ → Term
source_term source column = unwrap_or (source.term_for column) (base_term (Cell source.number column))

-- the functions of a path applied to a term
abbrev pub term_along : List FunId → Term → Term
term_along path t = record { base = t.base; path = t.path ++ path }

-- the problem of these parts
abbrev pub problem_of : Transition → Problem → List UnmatchedRow → List Literal → List Way → List Source → Problem
problem_of t cube rows disjunct ways sources = record {
  rows = t.rows ++ map (λ (u : UnmatchedRow). u.relation) rows;
  params = t.params;
  literals = disjunct
      ++ flat_map (λ (w : Way). w.literals) ways
      ++ map (replace (base_before t (map (source_of t (length t.rows)) sources))) cube.literals;
}

-- the problems of a matching, in order
abbrev pub problems_of : Transition → Problem → List (Option ℕ) → List Problem
problems_of t cube m =
    flat_map (λ (disjunct : List Literal). map (preimage_problem t cube m disjunct) (case_choices t.bulk (unmatched (length t.rows) cube.rows m))) t.guard
