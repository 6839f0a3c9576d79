-- A desk: seats are taken one by one, and one step switches all seats at once.
use Rattle.std.specs.Prelude.{ℕ, List, [], ◌∷◌, Some}
use Rattle.ras_logic.specs.declared.ids.RelId.{RelId}
use Rattle.ras_logic.specs.declared.term.Term.{Term}
use Rattle.ras_logic.specs.declared.literal.Literal.{Literal}
use Rattle.ras_logic.specs.declared.problem.Problem.{Problem}
use Rattle.ras_logic.specs.declared.raw_db.RawDb.{RawDb}
use Rattle.ras_logic.specs.Shapes.{ShapeParts}
use Rattle.ras_logic.specs.Terms.{constant_term, undef_term}
use Rattle.ras_system.specs.declared.transition.Transition.{Transition}
use Rattle.ras_system.specs.declared.state.State.{State}
use Rattle.ras_system.specs.Systems.{SystemParts}
use Rattle.ras_vectors.specs.Words.{sort, constant, relation, var, cell, same, apart, cube, set_var, set_cell, case, set_column, database, state}

abbrev pub shape : ShapeParts
shape = record {
  schema = record { sorts = 1; functions = []; constants = sort 0 ∷ sort 0 ∷ [] };
  vars = sort 0 ∷ [];
  relations = (sort 0 ∷ []) ∷ [];
}

abbrev pub seats : RelId
seats = relation 0

abbrev pub on : Term
on = constant_term (constant 0)

abbrev pub off : Term
off = constant_term (constant 1)

abbrev pub unset : Term
unset = undef_term (sort 0)

abbrev pub seat : ℕ → Term
seat row = cell row 0

abbrev pub take_seat : Transition
take_seat = record {
  rows = seats ∷ [];
  params = [];
  guard = (same (seat 0) unset ∷ []) ∷ [];
  updates = set_cell 0 0 on ∷ [];
  bulk = [];
}

abbrev pub clear : Transition
clear = record {
  rows = seats ∷ [];
  params = [];
  guard = (same (seat 0) on ∷ []) ∷ [];
  updates = set_var 0 on ∷ [];
  bulk = case seats (same (seat 1) on ∷ []) (set_column 0 off ∷ []) ∷ case seats (same (seat 1) unset ∷ []) (set_column 0 on ∷ []) ∷ [];
}

abbrev pub off_and_on : Problem
off_and_on = cube (seats ∷ seats ∷ []) (same (seat 0) off ∷ same (seat 1) on ∷ [])

abbrev pub desk : SystemParts
desk = record { shape = shape; initial = Some (constant 1) ∷ []; transitions = take_seat ∷ clear ∷ []; goals = off_and_on ∷ [] }

abbrev pub two_elements : RawDb
two_elements = database (2 ∷ []) [] (1 ∷ 2 ∷ [])

-- a state: the variable, and three seats
abbrev pub three_seats : ℕ → ℕ → ℕ → ℕ → State
three_seats m a b c = state (m ∷ []) (((a ∷ []) ∷ (b ∷ []) ∷ (c ∷ []) ∷ []) ∷ [])

-- one row, or two rows, beside the row parameter, whose seat is on
abbrev one_beside : List Literal → Problem
one_beside literals = cube (seats ∷ seats ∷ []) (same (seat 0) on ∷ literals)

abbrev two_beside : List Literal → Problem
two_beside literals = cube (seats ∷ seats ∷ seats ∷ []) (same (seat 0) on ∷ literals)

-- before `clear`: the first or the second row of the formula is the row parameter, or neither is
abbrev pub before_clear : List Problem
before_clear =
    one_beside (same (seat 1) on ∷ same (seat 0) off ∷ same off on ∷ [])
    ∷ one_beside (apart (seat 1) on ∷ same (seat 1) unset ∷ same (seat 0) off ∷ same on on ∷ [])
    ∷ one_beside (apart (seat 1) on ∷ apart (seat 1) unset ∷ same (seat 0) off ∷ same (seat 1) on ∷ [])
    ∷ one_beside (same (seat 1) on ∷ same off off ∷ same (seat 0) on ∷ [])
    ∷ one_beside (apart (seat 1) on ∷ same (seat 1) unset ∷ same on off ∷ same (seat 0) on ∷ [])
    ∷ one_beside (apart (seat 1) on ∷ apart (seat 1) unset ∷ same (seat 1) off ∷ same (seat 0) on ∷ [])
    ∷ two_beside (same (seat 1) on ∷ same (seat 2) on ∷ same off off ∷ same off on ∷ [])
    ∷ two_beside (same (seat 1) on ∷ apart (seat 2) on ∷ same (seat 2) unset ∷ same off off ∷ same on on ∷ [])
    ∷ two_beside (same (seat 1) on ∷ apart (seat 2) on ∷ apart (seat 2) unset ∷ same off off ∷ same (seat 2) on ∷ [])
    ∷ two_beside (apart (seat 1) on ∷ same (seat 1) unset ∷ same (seat 2) on ∷ same on off ∷ same off on ∷ [])
    ∷ two_beside (apart (seat 1) on ∷ same (seat 1) unset ∷ apart (seat 2) on ∷ same (seat 2) unset ∷ same on off ∷ same on on ∷ [])
    ∷ two_beside (apart (seat 1) on ∷ same (seat 1) unset ∷ apart (seat 2) on ∷ apart (seat 2) unset ∷ same on off ∷ same (seat 2) on ∷ [])
    ∷ two_beside (apart (seat 1) on ∷ apart (seat 1) unset ∷ same (seat 2) on ∷ same (seat 1) off ∷ same off on ∷ [])
    ∷ two_beside (apart (seat 1) on ∷ apart (seat 1) unset ∷ apart (seat 2) on ∷ same (seat 2) unset ∷ same (seat 1) off ∷ same on on ∷ [])
    ∷ two_beside (apart (seat 1) on ∷ apart (seat 1) unset ∷ apart (seat 2) on ∷ apart (seat 2) unset ∷ same (seat 1) off ∷ same (seat 2) on ∷ [])
    ∷ []

-- the variable is forgotten: it gets no element
abbrev pub forget : Transition
forget = record {
  rows = [];
  params = [];
  guard = (same (var 0) on ∷ []) ∷ (apart (var 0) off ∷ []) ∷ [];
  updates = set_var 0 unset ∷ [];
  bulk = [];
}

abbrev pub as_the_variable : Problem
as_the_variable = cube (seats ∷ []) (same (seat 0) (var 0) ∷ apart (var 0) off ∷ [])

-- before `forget`: by each disjunct, with undef in the place of the variable
abbrev pub before_forget : List Problem
before_forget =
    cube (seats ∷ []) (same (var 0) on ∷ same (seat 0) unset ∷ apart unset off ∷ [])
    ∷ cube (seats ∷ []) (apart (var 0) off ∷ same (seat 0) unset ∷ apart unset off ∷ [])
    ∷ []
