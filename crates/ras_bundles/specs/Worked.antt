-- Worked texts.
use Rattle.std.specs.Prelude.{ℕ, List, [], ◌∷◌, ◌++◌, false, None, codes}
use Rattle.ras_logic.specs.declared.literal.Literal.TheVariants.{Equal}
use Rattle.ras_logic.specs.declared.term.Base.TheVariants.{Var, Undef}
use Rattle.ras_logic.specs.declared.problem.Problem.{Problem}
use Rattle.ras_logic.specs.declared.tree.Node.TheVariants.{Leaf, Split}
use Rattle.ras_system.specs.Systems.{SystemParts}
use Rattle.ras_lines.specs.Lines.{written}
use Rattle.ras_evidence.specs.declared.value.Evidence.{Evidence}
use Rattle.ras_evidence.specs.declared.value.Evidence.TheVariants.{Safe}

-- one variable that is never assigned, and never other than undef
abbrev pub one_variable_text : List ℕ
one_variable_text =
    written
    (codes "bundle 1" ∷ codes "sorts 1" ∷ codes "functions 0" ∷ codes "consts 0" ∷ codes "variables 1" ∷ codes "variable 0 none" ∷ codes "transitions 0" ∷ codes "unsafe 1" ∷ codes "cube 0 1 v0!=u0"
    ∷ codes "evidence 1 safe" ∷ codes "formulas 1" ∷ codes "cube 0 1 v0!=u0" ∷ codes "trees 2" ∷ codes "tree leaf" ∷ codes "tree split 0 0 1 leaf" ∷ codes "end" ∷ [])

abbrev pub not_undef : Problem
not_undef = record {
  rows = [];
  params = [];
  literals = Equal (record { base = Var (record { n = 0 }); path = [] }) (record { base = Undef (record { n = 0 }); path = [] }) false ∷ [];
}

abbrev pub one_variable : SystemParts
one_variable = record {
  shape = record { schema = record { sorts = 1; functions = []; constants = [] }; vars = record { n = 0 } ∷ []; relations = [] };
  initial = None ∷ [];
  transitions = [];
  goals = not_undef ∷ [];
}

abbrev pub never_other : Evidence
never_other = Safe (not_undef ∷ []) (record { nodes = Leaf ∷ [] } ∷ record { nodes = Split 0 [] 1 ∷ Leaf ∷ [] } ∷ [])

-- three functions in a ring, the last of which closes it
abbrev pub ring_text : List ℕ
ring_text =
    written
    (codes "bundle 1" ∷ codes "sorts 3" ∷ codes "functions 3" ∷ codes "function 2 0 nullable" ∷ codes "function 1 2 total" ∷ codes "function 0 1 total" ∷ codes "consts 1 9" ∷ codes "variables 0" ∷ codes "transitions 0"
    ∷ codes "unsafe 0" ∷ [])

-- a variable without initial constant and no transition yet
abbrev pub front : List (List ℕ)
front = codes "bundle 1" ∷ codes "sorts 1" ∷ codes "functions 0" ∷ codes "consts 0" ∷ codes "variables 1" ∷ codes "variable 0 none" ∷ codes "transitions 1" ∷ []

-- the variable is assigned three times, where the second is the first fault; the third term is of a sort that is none
abbrev pub twice_text : List ℕ
twice_text = written (front ++ codes "guard 1" ∷ codes "cube 0 0" ∷ codes "updates 3" ∷ codes "update 0 u0" ∷ codes "update 0 v0" ∷ codes "update 0 u7" ∷ codes "unsafe 0" ∷ [])

-- no disjunct, and a row in the goal
abbrev pub no_disjunct_text : List ℕ
no_disjunct_text = written (front ++ codes "guard 0" ∷ codes "updates 0" ∷ codes "unsafe 1" ∷ codes "cube 1 0 0" ∷ [])

-- no disjunct, and no goals
abbrev pub cut_text : List ℕ
cut_text = written (front ++ codes "guard 0" ∷ codes "updates 0" ∷ [])
