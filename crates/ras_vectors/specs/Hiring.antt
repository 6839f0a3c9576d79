-- Hiring: a row of `apps` takes a job and the job's owner, or gives both up. It is unsafe that a row has a user who does
-- not own its job.
use Rattle.std.specs.Prelude.{ℕ, List, [], ◌∷◌}
use Rattle.ras_logic.specs.declared.ids.RelId.{RelId}
use Rattle.ras_logic.specs.declared.term.Term.{Term}
use Rattle.ras_logic.specs.declared.problem.Problem.{Problem}
use Rattle.ras_logic.specs.declared.raw_db.RawDb.{RawDb}
use Rattle.ras_logic.specs.declared.tree.Tree.{Tree}
use Rattle.ras_logic.specs.declared.tree.Node.TheVariants.{Leaf, Split}
use Rattle.ras_logic.specs.Schemas.{SchemaParts}
use Rattle.ras_logic.specs.Shapes.{ShapeParts}
use Rattle.ras_logic.specs.Terms.{undef_term, image_term}
use Rattle.ras_system.specs.declared.transition.Transition.{Transition}
use Rattle.ras_system.specs.declared.state.State.{State}
use Rattle.ras_system.specs.Systems.{SystemParts}
use Rattle.ras_system.specs.Obligations.{Obligation}
use Rattle.ras_vectors.specs.Words.{sort, function, relation, total, cell, param, same, apart, cube, problem, set_cell, database, state, tree}

-- users are sort 0, jobs are sort 1, and each job has an owner
abbrev pub schema : SchemaParts
schema = record { sorts = 2; functions = total 1 0 ∷ []; constants = [] }

abbrev pub shape : ShapeParts
shape = record { schema = schema; vars = []; relations = (sort 1 ∷ sort 0 ∷ []) ∷ [] }

abbrev pub apps : RelId
apps = relation 0

abbrev pub no_user : Term
no_user = undef_term (sort 0)

abbrev pub no_job : Term
no_job = undef_term (sort 1)

abbrev pub owner_of : Term → Term
owner_of t = image_term t (function 0)

-- the cells of a row
abbrev pub job : ℕ → Term
job row = cell row 0

abbrev pub who : ℕ → Term
who row = cell row 1

-- the job that is applied for, a data parameter
abbrev pub wanted : Term
wanted = param 0

abbrev pub apply : Transition
apply = record {
  rows = apps ∷ [];
  params = sort 1 ∷ [];
  guard = (same (job 0) no_job ∷ apart wanted no_job ∷ []) ∷ [];
  updates = set_cell 0 0 wanted ∷ set_cell 0 1 (owner_of wanted) ∷ [];
  bulk = [];
}

abbrev pub withdraw : Transition
withdraw = record {
  rows = apps ∷ [];
  params = [];
  guard = (apart (job 0) no_job ∷ []) ∷ [];
  updates = set_cell 0 0 no_job ∷ set_cell 0 1 no_user ∷ [];
  bulk = [];
}

abbrev pub wrong_owner : Problem
wrong_owner = cube (apps ∷ []) (apart (who 0) (owner_of (job 0)) ∷ [])

abbrev pub hiring : SystemParts
hiring = record { shape = shape; initial = []; transitions = apply ∷ withdraw ∷ []; goals = wrong_owner ∷ [] }

-- Before `apply`: either the row with the wrong owner is the row that applies, or it is another row.
abbrev pub before_apply : List Problem
before_apply =
    problem (apps ∷ []) (sort 1 ∷ []) (same (job 0) no_job ∷ apart wanted no_job ∷ apart (owner_of wanted) (owner_of wanted) ∷ [])
    ∷ problem (apps ∷ apps ∷ []) (sort 1 ∷ []) (same (job 0) no_job ∷ apart wanted no_job ∷ apart (who 1) (owner_of (job 1)) ∷ [])
    ∷ []

abbrev pub before_withdraw : List Problem
before_withdraw =
    cube (apps ∷ []) (apart (job 0) no_job ∷ apart no_user (owner_of no_job) ∷ [])
    ∷ cube (apps ∷ apps ∷ []) (apart (job 0) no_job ∷ apart (who 1) (owner_of (job 1)) ∷ [])
    ∷ []

-- what has to be refuted where the goal is the one formula
abbrev pub to_refute : List Obligation
to_refute =
    record { premise = cube (apps ∷ []) (apart (who 0) (owner_of (job 0)) ∷ same (job 0) no_job ∷ same (who 0) no_user ∷ []); formulas = [] }
    ∷ record { premise = wrong_owner; formulas = wrong_owner ∷ [] }
    ∷ record { premise = problem (apps ∷ []) (sort 1 ∷ []) (same (job 0) no_job ∷ apart wanted no_job ∷ apart (owner_of wanted) (owner_of wanted) ∷ []); formulas = wrong_owner ∷ [] }
    ∷ record { premise = problem (apps ∷ apps ∷ []) (sort 1 ∷ []) (same (job 0) no_job ∷ apart wanted no_job ∷ apart (who 1) (owner_of (job 1)) ∷ []); formulas = wrong_owner ∷ [] }
    ∷ record { premise = cube (apps ∷ []) (apart (job 0) no_job ∷ apart no_user (owner_of no_job) ∷ []); formulas = wrong_owner ∷ [] }
    ∷ record { premise = cube (apps ∷ apps ∷ []) (apart (job 0) no_job ∷ apart (who 1) (owner_of (job 1)) ∷ []); formulas = wrong_owner ∷ [] }
    ∷ []

abbrev pub trees : List Tree
trees =
    tree (Leaf ∷ [])
    ∷ tree (Split 0 (0 ∷ []) 1 ∷ Leaf ∷ [])
    ∷ tree (Leaf ∷ [])
    ∷ tree (Split 0 (1 ∷ []) 1 ∷ Leaf ∷ [])
    ∷ tree (Leaf ∷ [])
    ∷ tree (Split 0 (1 ∷ []) 1 ∷ Leaf ∷ [])
    ∷ []

-- the same with any user in place of the job's owner
abbrev pub apply_for_any : Transition
apply_for_any = record {
  rows = apps ∷ [];
  params = sort 1 ∷ sort 0 ∷ [];
  guard = (same (job 0) no_job ∷ apart wanted no_job ∷ apart (param 1) no_user ∷ []) ∷ [];
  updates = set_cell 0 0 wanted ∷ set_cell 0 1 (param 1) ∷ [];
  bulk = [];
}

abbrev pub careless : SystemParts
careless = record { shape = shape; initial = []; transitions = apply_for_any ∷ withdraw ∷ []; goals = wrong_owner ∷ [] }

-- two users, and one job, which the first of them owns
abbrev pub one_job : RawDb
one_job = database (2 ∷ 1 ∷ []) ((1 ∷ []) ∷ []) []

abbrev pub one_row : ℕ → ℕ → State
one_row job who = state [] (((job ∷ who ∷ []) ∷ []) ∷ [])
