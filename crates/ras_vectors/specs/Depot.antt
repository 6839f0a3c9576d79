-- A depot: tasks put parcels on shelves, carts stand at shelves. Its steps use what the smaller systems lack: two relations,
-- functions applied twice, two disjuncts, bulk cases that read the updated row.
use Rattle.std.specs.Prelude.{ℕ, List, [], ◌∷◌, Option, Some, None}
use Rattle.ras_logic.specs.declared.ids.ConstId.{ConstId}
use Rattle.ras_logic.specs.declared.ids.RelId.{RelId}
use Rattle.ras_logic.specs.declared.term.Term.{Term}
use Rattle.ras_logic.specs.declared.literal.Literal.{Literal}
use Rattle.ras_logic.specs.declared.problem.Problem.{Problem}
use Rattle.ras_logic.specs.declared.raw_db.RawDb.{RawDb}
use Rattle.ras_logic.specs.declared.values.Values.{Values}
use Rattle.ras_logic.specs.Schemas.{SchemaParts}
use Rattle.ras_logic.specs.Shapes.{ShapeParts}
use Rattle.ras_logic.specs.Terms.{constant_term, undef_term, image_term}
use Rattle.ras_system.specs.declared.transition.Transition.{Transition}
use Rattle.ras_system.specs.declared.state.State.{State}
use Rattle.ras_system.specs.declared.system_fault.SystemPlace.{SystemPlace}
use Rattle.ras_system.specs.declared.system_fault.SystemKind.{SystemKind}
use Rattle.ras_system.specs.declared.system_fault.SystemFault.{SystemFault}
use Rattle.ras_system.specs.Systems.{SystemParts}
use Rattle.ras_system.specs.Obligations.{Obligation}
use Rattle.ras_vectors.specs.Words.{sort, function, constant, relation, total, nullable, var, cell, param, same, apart, cube, problem, set_var, set_cell, case, set_column, database, state}

-- Parcels are sort 0, shelves sort 1, halls sort 2. A parcel may have a shelf, and each shelf has a hall. Two shelves and a
-- hall have names.
abbrev pub schema : SchemaParts
schema = record { sorts = 3; functions = nullable 0 1 ∷ total 1 2 ∷ []; constants = sort 1 ∷ sort 1 ∷ sort 2 ∷ [] }

-- a task has a parcel and a shelf, a cart has a shelf at which it stands
abbrev pub shape : ShapeParts
shape = record { schema = schema; vars = sort 1 ∷ sort 2 ∷ []; relations = (sort 0 ∷ sort 1 ∷ []) ∷ (sort 1 ∷ []) ∷ [] }

abbrev pub tasks : RelId
tasks = relation 0

abbrev pub carts : RelId
carts = relation 1

abbrev pub shelf_of : Term → Term
shelf_of t = image_term t (function 0)

abbrev pub hall_of : Term → Term
hall_of t = image_term t (function 1)

abbrev pub no_parcel : Term
no_parcel = undef_term (sort 0)

abbrev pub no_shelf : Term
no_shelf = undef_term (sort 1)

abbrev pub no_hall : Term
no_hall = undef_term (sort 2)

abbrev pub front : Term
front = constant_term (constant 0)

abbrev pub back : Term
back = constant_term (constant 1)

abbrev pub main_hall : Term
main_hall = constant_term (constant 2)

-- the variables: a shelf and a hall
abbrev pub place : Term
place = var 0

abbrev pub hall : Term
hall = var 1

-- the cells of a task, and of a cart
abbrev pub parcel : ℕ → Term
parcel row = cell row 0

abbrev pub shelf : ℕ → Term
shelf row = cell row 1

abbrev pub stand : ℕ → Term
stand row = cell row 0

-- the parcel that a step picks, a data parameter
abbrev pub picked : Term
picked = param 0

-- a task, a cart and another task, with bulk cases of both relations
abbrev pub move : Transition
move = record {
  rows = tasks ∷ carts ∷ tasks ∷ [];
  params = sort 0 ∷ [];
  guard = (apart picked no_parcel ∷ same (parcel 0) picked ∷ []) ∷ (same (hall_of (stand 1)) (hall_of place) ∷ []) ∷ [];
  updates = set_cell 0 1 (shelf_of picked) ∷ set_var 0 (stand 1) ∷ set_cell 1 0 place ∷ set_cell 2 0 (parcel 0) ∷ set_var 1 (hall_of (shelf_of picked)) ∷ [];
  bulk =
      case tasks (same (parcel 3) no_parcel ∷ apart (shelf 3) place ∷ []) (set_column 1 (shelf 2) ∷ [])
      ∷ case tasks (same (hall_of (shelf 3)) hall ∷ []) (set_column 0 picked ∷ set_column 1 (shelf_of (parcel 3)) ∷ [])
      ∷ case carts [] (set_column 0 (shelf 0) ∷ [])
      ∷ [];
}

-- tasks at the cart's shelf go to their parcel's shelf, the others without a parcel to the old place
abbrev pub sweep : Transition
sweep = record {
  rows = carts ∷ [];
  params = sort 0 ∷ [];
  guard = (apart picked no_parcel ∷ []) ∷ [];
  updates = set_var 0 (shelf_of picked) ∷ [];
  bulk =
      case tasks (same (shelf 1) (stand 0) ∷ []) (set_column 1 (shelf_of (parcel 1)) ∷ [])
      ∷ case tasks (same (parcel 1) no_parcel ∷ []) (set_column 1 place ∷ [])
      ∷ [];
}

-- two row parameters of one relation with one of another between them, and two disjuncts
abbrev pub shift : Transition
shift = record {
  rows = tasks ∷ carts ∷ tasks ∷ [];
  params = [];
  guard = (same (shelf 0) place ∷ []) ∷ (apart (shelf 2) place ∷ []) ∷ [];
  updates = set_cell 0 1 (shelf 2) ∷ set_cell 2 1 front ∷ [];
  bulk = case carts [] (set_column 0 front ∷ []) ∷ [];
}

-- conditions of two literals, then one that always holds, and a case that no task gets to
abbrev pub sort_out : Transition
sort_out = record {
  rows = [];
  params = [];
  guard = [] ∷ [];
  updates = [];
  bulk =
      case tasks (same (parcel 0) no_parcel ∷ apart (shelf 0) place ∷ []) (set_column 1 place ∷ [])
      ∷ case tasks (apart (shelf 0) front ∷ same (hall_of (shelf 0)) hall ∷ []) (set_column 1 back ∷ [])
      ∷ case tasks [] (set_column 1 front ∷ [])
      ∷ case tasks (same (shelf 0) back ∷ []) []
      ∷ [];
}

abbrev pub split_up : Problem
split_up = cube (tasks ∷ tasks ∷ []) (same (hall_of (shelf 0)) (hall_of place) ∷ apart (hall_of (shelf 1)) main_hall ∷ [])

abbrev pub twins : Problem
twins = cube (tasks ∷ tasks ∷ []) (same (parcel 0) (parcel 1) ∷ apart (shelf 0) (shelf 1) ∷ [])

abbrev pub at_back : Problem
at_back = cube (tasks ∷ []) (same (shelf 0) back ∷ [])

abbrev pub depot : SystemParts
depot = record {
  shape = shape;
  initial = Some (constant 0) ∷ None ∷ [];
  transitions = move ∷ sweep ∷ shift ∷ sort_out ∷ [];
  goals = split_up ∷ twins ∷ at_back ∷ [];
}

-- Three parcels, four shelves, two halls. Parcel 1 is on shelf 1, parcel 2 on shelf 3, parcel 3 on none. Shelves 1 and 2 are
-- in hall 1, the others in hall 2. The named ones are shelves 1 and 2 and hall 1.
abbrev pub stock : RawDb
stock = database (3 ∷ 4 ∷ 2 ∷ []) ((1 ∷ 3 ∷ 0 ∷ []) ∷ (1 ∷ 1 ∷ 2 ∷ 2 ∷ []) ∷ []) (1 ∷ 2 ∷ 1 ∷ [])

-- before `sweep`: two tasks beside its cart, each of which the first case takes, or the second, or none
abbrev swept : List Literal → Problem
swept literals = problem (carts ∷ tasks ∷ tasks ∷ []) (sort 0 ∷ []) (apart picked no_parcel ∷ literals)

abbrev pub before_sweep : List Problem
before_sweep =
    swept (same (shelf 1) (stand 0) ∷ same (shelf 2) (stand 0)
    ∷ same (hall_of (shelf_of (parcel 1))) (hall_of (shelf_of picked)) ∷ apart (hall_of (shelf_of (parcel 2))) main_hall ∷ [])
    ∷ swept (same (shelf 1) (stand 0) ∷ apart (shelf 2) (stand 0) ∷ same (parcel 2) no_parcel
    ∷ same (hall_of (shelf_of (parcel 1))) (hall_of (shelf_of picked)) ∷ apart (hall_of place) main_hall ∷ [])
    ∷ swept (same (shelf 1) (stand 0) ∷ apart (shelf 2) (stand 0) ∷ apart (parcel 2) no_parcel
    ∷ same (hall_of (shelf_of (parcel 1))) (hall_of (shelf_of picked)) ∷ apart (hall_of (shelf 2)) main_hall ∷ [])
    ∷ swept (apart (shelf 1) (stand 0) ∷ same (parcel 1) no_parcel ∷ same (shelf 2) (stand 0)
    ∷ same (hall_of place) (hall_of (shelf_of picked)) ∷ apart (hall_of (shelf_of (parcel 2))) main_hall ∷ [])
    ∷ swept (apart (shelf 1) (stand 0) ∷ same (parcel 1) no_parcel ∷ apart (shelf 2) (stand 0) ∷ same (parcel 2) no_parcel
    ∷ same (hall_of place) (hall_of (shelf_of picked)) ∷ apart (hall_of place) main_hall ∷ [])
    ∷ swept (apart (shelf 1) (stand 0) ∷ same (parcel 1) no_parcel ∷ apart (shelf 2) (stand 0) ∷ apart (parcel 2) no_parcel
    ∷ same (hall_of place) (hall_of (shelf_of picked)) ∷ apart (hall_of (shelf 2)) main_hall ∷ [])
    ∷ swept (apart (shelf 1) (stand 0) ∷ apart (parcel 1) no_parcel ∷ same (shelf 2) (stand 0)
    ∷ same (hall_of (shelf 1)) (hall_of (shelf_of picked)) ∷ apart (hall_of (shelf_of (parcel 2))) main_hall ∷ [])
    ∷ swept (apart (shelf 1) (stand 0) ∷ apart (parcel 1) no_parcel ∷ apart (shelf 2) (stand 0) ∷ same (parcel 2) no_parcel
    ∷ same (hall_of (shelf 1)) (hall_of (shelf_of picked)) ∷ apart (hall_of place) main_hall ∷ [])
    ∷ swept (apart (shelf 1) (stand 0) ∷ apart (parcel 1) no_parcel ∷ apart (shelf 2) (stand 0) ∷ apart (parcel 2) no_parcel
    ∷ same (hall_of (shelf 1)) (hall_of (shelf_of picked)) ∷ apart (hall_of (shelf 2)) main_hall ∷ [])
    ∷ []

-- before `shift`: each of two tasks is the first or the second of its tasks, or none, and either disjunct holds
abbrev shifted : List RelId → Literal → List Literal → Problem
shifted others disjunct literals = cube (tasks ∷ carts ∷ tasks ∷ others) (disjunct ∷ literals)

abbrev first : Literal
first = same (shelf 0) place

abbrev second : Literal
second = apart (shelf 2) place

abbrev pub before_shift : List Problem
before_shift =
    shifted [] first (same (parcel 0) (parcel 2) ∷ apart (shelf 2) front ∷ [])
    ∷ shifted [] second (same (parcel 0) (parcel 2) ∷ apart (shelf 2) front ∷ [])
    ∷ shifted (tasks ∷ []) first (same (parcel 0) (parcel 3) ∷ apart (shelf 2) (shelf 3) ∷ [])
    ∷ shifted (tasks ∷ []) second (same (parcel 0) (parcel 3) ∷ apart (shelf 2) (shelf 3) ∷ [])
    ∷ shifted [] first (same (parcel 2) (parcel 0) ∷ apart front (shelf 2) ∷ [])
    ∷ shifted [] second (same (parcel 2) (parcel 0) ∷ apart front (shelf 2) ∷ [])
    ∷ shifted (tasks ∷ []) first (same (parcel 2) (parcel 3) ∷ apart front (shelf 3) ∷ [])
    ∷ shifted (tasks ∷ []) second (same (parcel 2) (parcel 3) ∷ apart front (shelf 3) ∷ [])
    ∷ shifted (tasks ∷ []) first (same (parcel 3) (parcel 0) ∷ apart (shelf 3) (shelf 2) ∷ [])
    ∷ shifted (tasks ∷ []) second (same (parcel 3) (parcel 0) ∷ apart (shelf 3) (shelf 2) ∷ [])
    ∷ shifted (tasks ∷ []) first (same (parcel 3) (parcel 2) ∷ apart (shelf 3) front ∷ [])
    ∷ shifted (tasks ∷ []) second (same (parcel 3) (parcel 2) ∷ apart (shelf 3) front ∷ [])
    ∷ shifted (tasks ∷ tasks ∷ []) first (same (parcel 3) (parcel 4) ∷ apart (shelf 3) (shelf 4) ∷ [])
    ∷ shifted (tasks ∷ tasks ∷ []) second (same (parcel 3) (parcel 4) ∷ apart (shelf 3) (shelf 4) ∷ [])
    ∷ []

-- Before `sort_out`: the first case takes the task; or the second does, and one literal of the first fails; or the third
-- does, and one literal of the first and one of the second fail. The third never fails, so nothing comes after it.
abbrev pub before_sort_out : List Problem
before_sort_out =
    cube (tasks ∷ []) (same (parcel 0) no_parcel ∷ apart (shelf 0) place ∷ same place back ∷ [])
    ∷ cube (tasks ∷ []) (apart (parcel 0) no_parcel ∷ apart (shelf 0) front ∷ same (hall_of (shelf 0)) hall ∷ same back back ∷ [])
    ∷ cube (tasks ∷ []) (same (shelf 0) place ∷ apart (shelf 0) front ∷ same (hall_of (shelf 0)) hall ∷ same back back ∷ [])
    ∷ cube (tasks ∷ []) (apart (parcel 0) no_parcel ∷ same (shelf 0) front ∷ same front back ∷ [])
    ∷ cube (tasks ∷ []) (apart (parcel 0) no_parcel ∷ apart (hall_of (shelf 0)) hall ∷ same front back ∷ [])
    ∷ cube (tasks ∷ []) (same (shelf 0) place ∷ same (shelf 0) front ∷ same front back ∷ [])
    ∷ cube (tasks ∷ []) (same (shelf 0) place ∷ apart (hall_of (shelf 0)) hall ∷ same front back ∷ [])
    ∷ []

-- seven tasks and three carts, before and after the step by `move` in which the fifth task, the second cart and the second
-- task are named and parcel 2 is picked
abbrev pub before_move : State
before_move = state (1 ∷ 1 ∷ [])
    (((0 ∷ 0 ∷ []) ∷ (2 ∷ 4 ∷ []) ∷ (0 ∷ 1 ∷ []) ∷ (1 ∷ 2 ∷ []) ∷ (3 ∷ 4 ∷ []) ∷ (3 ∷ 3 ∷ []) ∷ (0 ∷ 2 ∷ []) ∷ [])
    ∷ ((3 ∷ []) ∷ (2 ∷ []) ∷ (0 ∷ []) ∷ []) ∷ [])

abbrev pub after_move : State
after_move = state (2 ∷ 2 ∷ [])
    (((0 ∷ 4 ∷ []) ∷ (3 ∷ 4 ∷ []) ∷ (2 ∷ 0 ∷ []) ∷ (2 ∷ 1 ∷ []) ∷ (3 ∷ 3 ∷ []) ∷ (3 ∷ 3 ∷ []) ∷ (0 ∷ 4 ∷ []) ∷ [])
    ∷ ((4 ∷ []) ∷ (1 ∷ []) ∷ (4 ∷ []) ∷ []) ∷ [])

-- shelf 4 and hall 1, a task with parcel 2 and shelf 4, a cart at shelf 3, and the parcels 1 and 3
abbrev pub some_values : Values
some_values = record { vars = 4 ∷ 1 ∷ []; rows = (2 ∷ 4 ∷ []) ∷ (3 ∷ []) ∷ []; params = 1 ∷ 3 ∷ [] }

-- the depot with one part changed
abbrev pub with_start : List (Option ConstId) → SystemParts
with_start initial = record depot { initial = initial }

abbrev pub with_steps : List Transition → SystemParts
with_steps steps = record depot { transitions = steps }

abbrev pub with_step : Transition → SystemParts
with_step t = with_steps (move ∷ t ∷ [])

abbrev pub with_goals : List Problem → SystemParts
with_goals goals = record depot { goals = goals }

abbrev pub with_goal : Problem → SystemParts
with_goal goal = with_goals (split_up ∷ goal ∷ [])

-- a step of one task and one data parameter that changes nothing
abbrev pub idle : Transition
idle = record { rows = tasks ∷ []; params = sort 0 ∷ []; guard = [] ∷ []; updates = []; bulk = [] }

abbrev pub fault_at : SystemPlace → SystemKind → Option SystemFault
fault_at place kind = Some (record { place = place; kind = kind })

-- a formula of both relations, and what has to be refuted of it at the start
abbrev pub cart_and_task : Problem
cart_and_task = cube (carts ∷ tasks ∷ []) (apart (stand 0) (shelf 1) ∷ [])

abbrev pub cart_and_task_to_refute : List Obligation
cart_and_task_to_refute = record {
  premise = cube (carts ∷ tasks ∷ [])
      (apart (stand 0) (shelf 1) ∷ same place front ∷ same hall no_hall ∷ same (stand 0) no_shelf ∷ same (parcel 1) no_parcel ∷ same (shelf 1) no_shelf ∷ []);
  formulas = [];
} ∷ []

-- two tasks, with a cart between them, that are twins
abbrev pub two_tasks : Problem
two_tasks = cube (tasks ∷ carts ∷ tasks ∷ []) (same (parcel 0) (parcel 2) ∷ apart (shelf 0) (shelf 2) ∷ [])

-- one of these formulas holds always
abbrev pub all_cases : List Problem
all_cases =
    cube [] (same place front ∷ same hall main_hall ∷ [])
    ∷ cube [] (apart place front ∷ [])
    ∷ cube [] (apart hall main_hall ∷ [])
    ∷ []
