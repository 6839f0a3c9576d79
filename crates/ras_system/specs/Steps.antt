-- The step of a transition.
use Rattle.std.specs.Prelude.{◌≡◌, ℕ, ◌+◌, Bool, true, false, ◌&&◌, List, [], ◌∷◌, ◌++◌, map, slice_get, nat_eq, Option, Some, None, Any, option_map, find}
use Rattle.std.specs.List.{list_all, enumerate_from}
use Rattle.std.specs.Option.{option_map_or}
use Rattle.ras_logic.specs.declared.ids.RelId.{RelId}
use Rattle.ras_logic.specs.declared.raw_db.RawDb.{RawDb}
use Rattle.ras_logic.specs.declared.values.Values.{Values}
use Rattle.ras_logic.specs.declared.term.Term.{Term}
use Rattle.ras_logic.specs.Truth.{AreElements, AllHold, holds, value}
use Rattle.ras_system.specs.declared.state.State.{State}
use Rattle.ras_system.specs.declared.choice.Choice.{Choice}
use Rattle.ras_system.specs.declared.update.Target.{Target}
use Rattle.ras_system.specs.declared.update.Target.TheVariants.{Var, Cell}
use Rattle.ras_system.specs.declared.update.Update.{Update}
use Rattle.ras_system.specs.declared.bulk.Assign.{Assign}
use Rattle.ras_system.specs.declared.bulk.Bulk.{Bulk}
use Rattle.ras_system.specs.declared.transition.Transition.{Transition}
use Rattle.ras_system.specs.Systems.{SystemParts}
use Rattle.ras_system.specs.States.{AreRows, values_at}

abbrev pub is_var : ℕ → Target → Bool
is_var x (Var v) = nat_eq v.n x
is_var x (Cell row column) = false

abbrev pub is_cell : ℕ → ℕ → Target → Bool
is_cell r c (Var v) = false
is_cell r c (Cell row column) = nat_eq row r && nat_eq column c

-- the term that is assigned to a variable, to a cell of a row parameter, to a column of a bulk case, if there is one
abbrev pub term_for_var : List Update → ℕ → Option Term
term_for_var updates x = option_map (λ (u : Update). u.term) (find (λ (u : Update). is_var x u.target) updates)

abbrev pub term_for_cell : List Update → ℕ → ℕ → Option Term
term_for_cell updates row column = option_map (λ (u : Update). u.term) (find (λ (u : Update). is_cell row column u.target) updates)

abbrev pub term_for_column : List Assign → ℕ → Option Term
term_for_column assigns column = option_map (λ (a : Assign). a.term) (find (λ (a : Assign). nat_eq a.column column) assigns)

-- each place takes the value of the term that is assigned to it, and keeps its own where none is
abbrev pub written : RawDb → Values → (ℕ → Option Term) → List ℕ → List ℕ
written d v term_for old = map (λ (p : ℕ × ℕ). option_map_or (value d v) (term_for p.0) p.1) (enumerate_from 0 old)

-- the values with the updated row of a bulk case as their last row
abbrev pub with_row : Values → List ℕ → Values
with_row v cells = record v { rows = v.rows ++ cells ∷ [] }

-- the number of the row parameter that names this row of the relation, counted from n
abbrev pub named_from : ℕ → List RelId → List ℕ → ℕ → ℕ → Option ℕ
named_from n [] chosen relation row = None
named_from n (r ∷ rows) [] relation row = None
named_from n (r ∷ rows) (k ∷ chosen) relation row =
    elim (nat_eq r.n relation && nat_eq k row) [ true ↦ Some n | false ↦ named_from (n + 1) rows chosen relation row ]

-- whether a bulk case is of this relation and its condition holds of the row
abbrev pub takes : RawDb → Values → ℕ → List ℕ → Bulk → Bool
takes d v relation cells b = nat_eq b.relation.n relation && list_all (holds d (with_row v cells)) b.condition

-- an unnamed row takes the assignments of the first bulk case of its relation whose condition holds
abbrev pub unnamed_row : RawDb → Values → List Bulk → ℕ → List ℕ → List ℕ
unnamed_row d v bulk relation cells =
    option_map_or (λ (b : Bulk). written d (with_row v cells) (term_for_column b.assigns) cells) (find (takes d v relation cells) bulk) cells

-- a named row takes its assigned cells and keeps the others
abbrev pub row_after : RawDb → Values → Transition → List ℕ → ℕ → ℕ → List ℕ → List ℕ
row_after d v t chosen relation row cells =
    option_map_or (λ (p : ℕ). written d v (term_for_cell t.updates p) cells) (named_from 0 t.rows chosen relation row) (unnamed_row d v t.bulk relation cells)

-- the state after a step, all terms having their values in the old state
abbrev pub state_after : RawDb → Transition → State → Choice → State
state_after d t s c = let v : Values = values_at s t.rows c.rows c.values in record {
  vars = written d v (term_for_var t.updates) s.vars;
  relations = map (λ (q : ℕ × List (List ℕ)). map (λ (p : ℕ × List ℕ). row_after d v t c.rows q.0 p.0 p.1) (enumerate_from 0 q.1)) (enumerate_from 0 s.relations);
}

-- a step of this transition: pairwise different rows, elements for the data parameters, and a disjunct of the guard that holds
pub record StepBy (d : RawDb) (t : Transition) (old : State) (c : Choice) (new : State) : Type 0 where
  pub rows : AreRows old t.rows c.rows
  pub params : AreElements d t.params c.values
  pub guard : Any (AllHold d (values_at old t.rows c.rows c.values)) t.guard
  pub after : new ≡ state_after d t old c

-- a step of the transition that the choice names
abbrev pub IsStep : SystemParts → RawDb → State → Choice → State → Type 0
IsStep system d old c new = (t : Transition) × (slice_get system.transitions c.transition ≡ Some t) × StepBy d t old c new
