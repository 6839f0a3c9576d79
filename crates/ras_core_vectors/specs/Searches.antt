-- Searches of small systems: the events of each in order, and the state that they leave.
use Rattle.std.specs.Prelude.{ℕ, true, false, List, [], ◌∷◌, take, Some, None}
use Rattle.ras_logic.specs.declared.ids.RelId.{RelId}
use Rattle.ras_logic.specs.declared.problem.Problem.{Problem}
use Rattle.ras_logic.specs.declared.raw_db.RawDb.{RawDb}
use Rattle.ras_logic.specs.Terms.{undef_term}
use Rattle.ras_system.specs.declared.transition.Transition.{Transition}
use Rattle.ras_system.specs.Systems.{SystemParts}
use Rattle.ras_core.specs.declared.event.Event.{Event}
use Rattle.ras_core.specs.declared.event.Event.TheVariants.{Claim, Admit, Skip, Drop, Done, GiveBack, Hit, Spill, Idle}
use Rattle.ras_core.specs.declared.origin.Origin.TheVariants.{Goal, Step}
use Rattle.ras_core.specs.declared.work.Work.TheVariants as work
use Rattle.ras_core.specs.CoreStates.{CoreParts}
use Rattle.ras_core.specs.Events.{after}
use Rattle.ras_core.specs.Journals.{replay_from, first_state}
use Rattle.ras_vectors.specs.Words.{sort, relation, param, same, apart, cube, set_var, database}
use Rattle.ras_vectors.specs.Small.{plain_shape, two, x, unset, a, b, c, is_set, is_b, is_c, b_to_c}

abbrev pub is_unset : Problem
is_unset = cube [] (same x unset ∷ [])

abbrev pub not_a : Problem
not_a = cube [] (apart x a ∷ [])

-- the variable may not be set, and nothing sets it: the goal is the one entry
abbrev pub still_journal : List Event
still_journal = Admit (Goal 0) is_set ∷ Claim 0 ∷ Done 0 ∷ Idle ∷ []

abbrev pub still_last : CoreParts
still_last = record {
  submitted = true ∷ [];
  entries = record { cube = is_set; origin = Goal 0; kept = true; work = work.Done; submissions = [] } ∷ [];
  hit = None;
  spill = None;
  base = [];
  reported = true;
}

-- the variable would go from b to c: the goal is an entry, and so is the cube before it
abbrev pub two_journal : List Event
two_journal = Admit (Goal 0) is_c ∷ Claim 0 ∷ Admit (Step 0 0) is_b ∷ Done 0 ∷ Claim 1 ∷ Done 1 ∷ Idle ∷ []

-- the state after so many of its events
abbrev pub two_at : ℕ → CoreParts
two_at n = replay_from (first_state two []) (take n two_journal)

abbrev pub two_last : CoreParts
two_last = record {
  submitted = true ∷ [];
  entries =
      record { cube = is_c; origin = Goal 0; kept = true; work = work.Done; submissions = is_b ∷ [] }
      ∷ record { cube = is_b; origin = Step 0 0; kept = true; work = work.Done; submissions = [] }
      ∷ [];
  hit = None;
  spill = None;
  base = [];
  reported = true;
}

-- with a budget of one entry
abbrev pub spill_journal : List Event
spill_journal = Admit (Goal 0) is_c ∷ Claim 0 ∷ Spill (Step 0 0) is_b ∷ []

abbrev pub spill_last : CoreParts
spill_last = record {
  submitted = true ∷ [];
  entries = record { cube = is_c; origin = Goal 0; kept = true; work = work.Taken; submissions = [] } ∷ [];
  hit = None;
  spill = Some (record { cube = is_b; origin = Step 0 0 });
  base = [];
  reported = false;
}

-- the variable is not set from the start on
abbrev pub hit_journal : List Event
hit_journal = Hit (Goal 0) is_unset ∷ []

abbrev pub hit_last : CoreParts
hit_last = record {
  submitted = false ∷ [];
  entries = [];
  hit = Some (record { cube = is_unset; origin = Goal 0 });
  spill = None;
  base = [];
  reported = false;
}

-- from any value but a the variable goes to c
abbrev pub to_c : Transition
to_c = record { rows = []; params = []; guard = (apart x a ∷ []) ∷ []; updates = set_var 0 c ∷ []; bulk = [] }

-- the variable starts at a and would go from any other value to c; it is unsafe that it is c, and that it is not a
abbrev pub away : SystemParts
away = record two { transitions = to_c ∷ []; goals = is_c ∷ not_a ∷ [] }

-- the first entry is dropped, since it lies inside the second; the cube before the second is skipped, since that covers it
abbrev pub away_journal : List Event
away_journal =
    Admit (Goal 0) is_c ∷ Admit (Goal 1) not_a ∷ Drop 0 1 ∷ Claim 1 ∷ GiveBack 1 ∷ Claim 1 ∷ Skip (Step 1 0) not_a (1 ∷ []) ∷ Done 1 ∷ Idle ∷ []

-- the state after so many of its events
abbrev pub away_at : ℕ → CoreParts
away_at n = replay_from (first_state away []) (take n away_journal)

abbrev pub away_last : CoreParts
away_last = record {
  submitted = true ∷ true ∷ [];
  entries =
      record { cube = is_c; origin = Goal 0; kept = false; work = work.Free; submissions = [] }
      ∷ record { cube = not_a; origin = Goal 1; kept = true; work = work.Done; submissions = not_a ∷ [] }
      ∷ [];
  hit = None;
  spill = None;
  base = [];
  reported = true;
}

-- the first entry of that search is dropped while someone works on it
abbrev pub dropped_at_work : CoreParts
dropped_at_work = after (after (away_at 2) (Claim 0)) (Drop 0 1)

-- a hit, a spill
abbrev pub with_hit : CoreParts → CoreParts
with_hit s = after s (Hit (Goal 0) is_c)

abbrev pub with_spill : CoreParts → CoreParts
with_spill s = after s (Spill (Goal 0) is_c)

-- a row of a relation is asked for before the variable goes from b to c
abbrev pub seats : RelId
seats = relation 0

abbrev pub seated : SystemParts
seated = record two { shape = record two.shape { relations = (sort 0 ∷ []) ∷ [] }; transitions = record b_to_c { rows = seats ∷ [] } ∷ [] }

abbrev pub seated_at_work : CoreParts
seated_at_work = after (after (first_state seated []) (Admit (Goal 0) is_c)) (Claim 0)

-- a step sets the variable to any element, and that it is set is unsafe
abbrev pub pick : Transition
pick = record { rows = []; params = sort 0 ∷ []; guard = (apart (param 0) unset ∷ []) ∷ []; updates = set_var 0 (param 0) ∷ []; bulk = [] }

abbrev pub grow : SystemParts
grow = record { shape = plain_shape; initial = None ∷ []; transitions = pick ∷ []; goals = is_set ∷ [] }

-- there is no element but undef
abbrev pub no_element : RawDb
no_element = database (0 ∷ []) [] []

-- from undef the variable goes to c; it starts at a, or at undef
abbrev pub wake : SystemParts
wake = record two { transitions = record b_to_c { guard = (same x unset ∷ []) ∷ [] } ∷ [] }

abbrev pub wake_at_work : CoreParts
wake_at_work = after (after (first_state wake []) (Admit (Goal 0) is_c)) (Claim 0)

abbrev pub asleep : SystemParts
asleep = record wake { initial = None ∷ [] }

-- the states in which the variable is undef meet it, but it does not fit: the undef is of another sort
abbrev pub misfit : Problem
misfit = cube [] (same x (undef_term (sort 1)) ∷ [])

-- every state meets it
abbrev pub everything : Problem
everything = cube [] []

-- cubes before x = c that may not be entries: with states that do not lead there, with a literal or a row too many, with no
-- state
abbrev pub too_wide : Problem
too_wide = not_a

abbrev pub literal_too_many : Problem
literal_too_many = cube [] (same x b ∷ apart x c ∷ [])

abbrev pub row_too_many : Problem
row_too_many = cube (seats ∷ seats ∷ []) (same x b ∷ [])

abbrev pub without_state : Problem
without_state = cube [] (apart x x ∷ [])
