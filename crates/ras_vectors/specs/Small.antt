-- Systems of one variable.
use Rattle.std.specs.Prelude.{List, [], ◌∷◌, Some, None}
use Rattle.ras_logic.specs.declared.term.Term.{Term}
use Rattle.ras_logic.specs.declared.problem.Problem.{Problem}
use Rattle.ras_logic.specs.declared.raw_db.RawDb.{RawDb}
use Rattle.ras_logic.specs.declared.tree.Tree.{Tree}
use Rattle.ras_logic.specs.declared.tree.Node.TheVariants.{Leaf, Split}
use Rattle.ras_logic.specs.Shapes.{ShapeParts}
use Rattle.ras_logic.specs.Terms.{constant_term, undef_term}
use Rattle.ras_system.specs.declared.transition.Transition.{Transition}
use Rattle.ras_system.specs.Systems.{SystemParts}
use Rattle.ras_system.specs.Obligations.{Obligation}
use Rattle.ras_vectors.specs.Words.{sort, constant, var, same, apart, cube, set_var, database, tree}

abbrev pub x : Term
x = var 0

abbrev pub unset : Term
unset = undef_term (sort 0)

abbrev pub plain_shape : ShapeParts
plain_shape = record { schema = record { sorts = 1; functions = []; constants = [] }; vars = sort 0 ∷ []; relations = [] }

abbrev pub is_set : Problem
is_set = cube [] (apart x unset ∷ [])

-- the variable is never set, which would be unsafe
abbrev pub still : SystemParts
still = record { shape = plain_shape; initial = None ∷ []; transitions = []; goals = is_set ∷ [] }

-- the variable is not set from the start on, which is unsafe
abbrev pub unset_is_unsafe : SystemParts
unset_is_unsafe = record { shape = plain_shape; initial = None ∷ []; transitions = []; goals = cube [] (same x unset ∷ []) ∷ [] }

abbrev pub still_to_refute : List Obligation
still_to_refute =
    record { premise = cube [] (apart x unset ∷ same x unset ∷ []); formulas = [] }
    ∷ record { premise = is_set; formulas = is_set ∷ [] }
    ∷ []

abbrev pub still_trees : List Tree
still_trees = tree (Leaf ∷ []) ∷ tree (Split 0 [] 1 ∷ Leaf ∷ []) ∷ []

abbrev pub one_element : RawDb
one_element = database (1 ∷ []) [] []

abbrev pub a : Term
a = constant_term (constant 0)

abbrev pub b : Term
b = constant_term (constant 1)

abbrev pub c : Term
c = constant_term (constant 2)

abbrev pub is_b : Problem
is_b = cube [] (same x b ∷ [])

abbrev pub is_c : Problem
is_c = cube [] (same x c ∷ [])

abbrev pub b_to_c : Transition
b_to_c = record { rows = []; params = []; guard = (same x b ∷ []) ∷ []; updates = set_var 0 c ∷ []; bulk = [] }

abbrev pub c_to_b : Transition
c_to_b = record { rows = []; params = []; guard = (same x c ∷ []) ∷ []; updates = set_var 0 b ∷ []; bulk = [] }

-- the variable starts at a and would go from b to c, so it never gets to c
abbrev pub two : SystemParts
two = record {
  shape = record { schema = record { sorts = 1; functions = []; constants = sort 0 ∷ sort 0 ∷ sort 0 ∷ [] }; vars = sort 0 ∷ []; relations = [] };
  initial = Some (constant 0) ∷ [];
  transitions = b_to_c ∷ [];
  goals = is_c ∷ [];
}

abbrev pub two_to_refute : List Obligation
two_to_refute =
    record { premise = cube [] (same x c ∷ same x a ∷ []); formulas = [] }
    ∷ record { premise = cube [] (same x b ∷ same x a ∷ []); formulas = [] }
    ∷ record { premise = is_c; formulas = is_c ∷ is_b ∷ [] }
    ∷ record { premise = cube [] (same x b ∷ same c c ∷ []); formulas = is_c ∷ is_b ∷ [] }
    ∷ record { premise = cube [] (same x b ∷ same c b ∷ []); formulas = is_c ∷ is_b ∷ [] }
    ∷ []

abbrev pub two_trees : List Tree
two_trees =
    tree (Leaf ∷ [])
    ∷ tree (Leaf ∷ [])
    ∷ tree (Split 0 [] 1 ∷ Leaf ∷ [])
    ∷ tree (Split 1 [] 1 ∷ Leaf ∷ [])
    ∷ tree (Leaf ∷ [])
    ∷ []

-- the same with a way back
abbrev pub both_ways : SystemParts
both_ways = record two { transitions = b_to_c ∷ c_to_b ∷ [] }

abbrev pub both_to_refute : List Obligation
both_to_refute =
    record { premise = cube [] (same x c ∷ same x a ∷ []); formulas = [] }
    ∷ record { premise = cube [] (same x b ∷ same x a ∷ []); formulas = [] }
    ∷ record { premise = is_c; formulas = is_c ∷ is_b ∷ [] }
    ∷ record { premise = cube [] (same x b ∷ same c c ∷ []); formulas = is_c ∷ is_b ∷ [] }
    ∷ record { premise = cube [] (same x c ∷ same b c ∷ []); formulas = is_c ∷ is_b ∷ [] }
    ∷ record { premise = cube [] (same x b ∷ same c b ∷ []); formulas = is_c ∷ is_b ∷ [] }
    ∷ record { premise = cube [] (same x c ∷ same b b ∷ []); formulas = is_c ∷ is_b ∷ [] }
    ∷ []

-- the constants a, b and c are the elements 1, 2 and 3
abbrev pub three_elements : RawDb
three_elements = database (3 ∷ []) [] (1 ∷ 2 ∷ 3 ∷ [])
