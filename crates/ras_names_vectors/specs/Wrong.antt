-- Texts that denote nothing.
use Rattle.std.specs.Prelude.{[], ◌∷◌, None}
use Rattle.ras_names.specs.Placed.{undef, plain, all, always, File}
use Rattle.ras_names_vectors.specs.Words.{name, total, variable, bare, same, guard, update, step, goal, named}

-- system s; sort A; sort A;
abbrev pub sort_twice : File
sort_twice = record (named (name 7 "s")) { sorts = name 15 "A" ∷ name 23 "A" ∷ [] }

-- system s;
-- sort A;
-- sort B;
-- total f : A -> B;
-- total g : B -> A;
abbrev pub cycle_of_two : File
cycle_of_two = record (named (name 7 "s")) { sorts = name 15 "A" ∷ name 23 "B" ∷ []; functions = total (name 32 "f") (name 36 "A") (name 41 "B") ∷ total (name 50 "g") (name 54 "B") (name 59 "A") ∷ [] }

-- system s; unsafe { when undef = undef; }
abbrev pub undef_on_both_sides : File
undef_on_both_sides = record (named (name 7 "s")) { goals = goal [] (guard (all (same (bare (undef 24)) 30 (bare (undef 32))) []) []) ∷ [] }

-- system s; sort A; var x : A; step go { when true; x := x; x := undef; }
abbrev pub variable_twice : File
variable_twice = record (named (name 7 "s")) {
  sorts = name 15 "A" ∷ [];
  variables = variable (name 22 "x") (name 26 "A") None ∷ [];
  steps = step (name 34 "go") [] [] (guard (always 44) []) (update (name 50 "x") None 52 (bare (plain (name 55 "x"))) ∷ update (name 58 "x") None 60 (bare (undef 63)) ∷ []) [] ∷ [];
}
