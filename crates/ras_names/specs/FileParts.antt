-- The parts of a file of the grammar as lists.
use Rattle.std.specs.Prelude.{List, [], ◌∷◌, map, flat_map}
use Rattle.ras_syntax.specs.Grammar as grammar

abbrev pub columns : grammar.Relation → List grammar.Column
columns r = r.first ∷ r.others

abbrev pub disjuncts : grammar.Guard → List grammar.Conjunction
disjuncts g = g.first ∷ g.others

-- `true` has no literals
abbrev pub literals : grammar.Conjunction → List grammar.Literal
literals grammar.always = []
literals (grammar.all l ls) = l ∷ ls

abbrev pub cases : grammar.Each → List grammar.Case
cases e = e.first ∷ e.others

-- all cases of a step in order, each with its `each`
abbrev pub step_cases : grammar.Step → List (grammar.Each × grammar.Case)
step_cases s = flat_map (λ (e : grammar.Each). map (λ (c : grammar.Case). (e, c)) (cases e)) s.eachs

-- all disjuncts of the unsafe items in order, each with its item
abbrev pub file_goals : grammar.File → List (grammar.Goal × grammar.Conjunction)
file_goals f = flat_map (λ (g : grammar.Goal). map (λ (c : grammar.Conjunction). (g, c)) (disjuncts g.guard)) f.goals
