-- What stands on both sides of a term inside functions.
use Rattle.std.specs.Prelude.{ℕ, List, [], ◌∷◌, ◌++◌, codes}
use Rattle.ras_logic.specs.declared.ids.FunId.{FunId}
use Rattle.ras_names.specs.declared.names.Names.{Names}
use Rattle.ras_print.specs.Lookup.{name_at}

-- each function with a parenthesis, the last of the list first
abbrev pub fronts : Names → List FunId → List ℕ
fronts names [] = []
fronts names (f ∷ fs) = fronts names fs ++ (name_at names.functions f.n ++ codes "(")

abbrev pub ends : List FunId → List ℕ
ends [] = []
ends (f ∷ fs) = codes ")" ++ ends fs
