-- What the texts of `Processes` denote, beside the systems of `ras_vectors`: their names, and the system of the smallest.
use Rattle.std.specs.Prelude.{[], ◌∷◌, None, codes}
use Rattle.ras_logic.specs.Terms.{undef_term, image_term}
use Rattle.ras_system.specs.Systems.{SystemParts}
use Rattle.ras_names.specs.declared.names.RelNames.{RelNames}
use Rattle.ras_names.specs.declared.names.Names.{Names}
use Rattle.ras_vectors.specs.Words.{sort, function, nullable, var, apart, cube}

abbrev pub apps : RelNames
apps = record { name = codes "apps"; columns = codes "job" ∷ codes "who" ∷ [] }

abbrev pub hiring_names : Names
hiring_names = record {
  system = codes "hiring";
  sorts = codes "User" ∷ codes "Job" ∷ [];
  functions = codes "owner" ∷ [];
  constants = [];
  vars = [];
  relations = apps ∷ [];
  steps =
      record { name = codes "apply"; rows = codes "a" ∷ []; params = codes "j" ∷ []; each = [] }
      ∷ record { name = codes "withdraw"; rows = codes "a" ∷ []; params = []; each = [] }
      ∷ [];
  goals = record { rows = codes "a" ∷ []; disjuncts = 1 } ∷ [];
}

abbrev pub seat : RelNames
seat = record { name = codes "seat"; columns = codes "s" ∷ [] }

abbrev pub desk_names : Names
desk_names = record {
  system = codes "desk";
  sorts = codes "U" ∷ [];
  functions = [];
  constants = codes "on" ∷ codes "off" ∷ [];
  vars = codes "m" ∷ [];
  relations = seat ∷ [];
  steps =
      record { name = codes "take"; rows = codes "a" ∷ []; params = []; each = [] }
      ∷ record { name = codes "clear"; rows = codes "a" ∷ []; params = []; each = codes "q" ∷ [] }
      ∷ [];
  goals = record { rows = codes "a" ∷ codes "b" ∷ []; disjuncts = 1 } ∷ [];
}

-- two goals: the image of undef is not x, and one without literals
abbrev pub nullable_system : SystemParts
nullable_system = record {
  shape = record { schema = record { sorts = 2; functions = nullable 1 0 ∷ []; constants = [] }; vars = sort 0 ∷ []; relations = [] };
  initial = None ∷ [];
  transitions = [];
  goals = cube [] (apart (image_term (undef_term (sort 1)) (function 0)) (var 0) ∷ []) ∷ cube [] [] ∷ [];
}

abbrev pub nullable_names : Names
nullable_names = record {
  system = codes "p";
  sorts = codes "A" ∷ codes "B" ∷ [];
  functions = codes "n" ∷ [];
  constants = [];
  vars = codes "x" ∷ [];
  relations = [];
  steps = [];
  goals = record { rows = []; disjuncts = 2 } ∷ [];
}
