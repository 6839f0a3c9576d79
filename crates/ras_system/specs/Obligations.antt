-- What a certificate of safety has to refute, in order.
use Rattle.std.specs.Prelude.{ℕ, List, [], ◌++◌, map, get_or, true, Option, flat_map}
use Rattle.std.specs.List.{enumerate_from}
use Rattle.std.specs.Option.{option_map_or}
use Rattle.ras_logic.specs.declared.ids.SortId.{SortId}
use Rattle.ras_logic.specs.declared.ids.RelId.{RelId}
use Rattle.ras_logic.specs.declared.ids.ConstId.{ConstId}
use Rattle.ras_logic.specs.declared.term.Base.TheVariants.{Var, Cell}
use Rattle.ras_logic.specs.declared.literal.Literal.{Literal}
use Rattle.ras_logic.specs.declared.literal.Literal.TheVariants.{Equal}
use Rattle.ras_logic.specs.declared.problem.Problem.{Problem}
use Rattle.ras_logic.specs.Terms.{base_term, constant_term, undef_term}
use Rattle.ras_system.specs.declared.transition.Transition.{Transition}
use Rattle.ras_system.specs.Systems.{SystemParts}
use Rattle.ras_system.specs.Preimages.{preimage}

-- the variable is the same as its initial constant, or as the undef of its sort
abbrev pub initial_literal : SystemParts → ℕ → Option ConstId → Literal
initial_literal system x constant =
    Equal (base_term (Var (record { n = x }))) (option_map_or constant_term constant (undef_term (get_or system.shape.vars x (record { n = 0 })))) true

-- one for each variable
abbrev pub initial_vars : SystemParts → List Literal
initial_vars system = map (λ (p : ℕ × Option ConstId). initial_literal system p.0 p.1) (enumerate_from 0 system.initial)

-- the cell is the same as the undef of its column's sort
abbrev pub undef_literal : ℕ → ℕ → SortId → Literal
undef_literal row column sort = Equal (base_term (Cell row column)) (undef_term sort) true

-- one for each cell of a row
abbrev pub undef_row : SystemParts → ℕ → RelId → List Literal
undef_row system row r = map (λ (p : ℕ × SortId). undef_literal row p.0 p.1) (enumerate_from 0 (get_or system.shape.relations r.n []))

-- one for each cell of the rows
abbrev pub undef_cells : SystemParts → List RelId → List Literal
undef_cells system rows = flat_map (λ (p : ℕ × RelId). undef_row system p.0 p.1) (enumerate_from 0 rows)

-- the formula of an initial state: its literals, the initial values of the variables, and undef in each cell of its rows
abbrev pub at_start : SystemParts → Problem → Problem
at_start system f = record f { literals = f.literals ++ initial_vars system ++ undef_cells system f.rows }

-- a premise that has to be refuted by cases on some formulas
pub record Obligation : Type 0 where
  pub premise : Problem
  pub formulas : List Problem

abbrev pub with_formulas : List Problem → Problem → Obligation
with_formulas formulas p = record { premise = p; formulas = formulas }

-- the preimages of a formula under each transition
abbrev pub preimages : SystemParts → Problem → List Problem
preimages system f = flat_map (λ (t : Transition). preimage t f) system.transitions

-- each formula at the start, by no formula
abbrev pub start_obligations : SystemParts → List Problem → List Obligation
start_obligations system formulas = map (λ (f : Problem). with_formulas [] (at_start system f)) formulas

-- each formula at the start, by no formula; each goal, and each preimage of each formula, by the formulas
abbrev pub obligations : SystemParts → List Problem → List Obligation
obligations system formulas =
    start_obligations system formulas
    ++ map (with_formulas formulas) system.goals
    ++ map (with_formulas formulas) (flat_map (preimages system) formulas)
