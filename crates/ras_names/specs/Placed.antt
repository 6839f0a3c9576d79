-- A file of the grammar with the places that a fault can name: those of names, of `undef`, `true` and `if`, and of the signs
-- `=`, `!=` and `:=`. Where nothing else is said, `at` is the place of the sign.
use Rattle.std.specs.Prelude.{ℕ, Bool, List, [], ◌∷◌, Option}
use Rattle.ras_syntax.specs.Grammar.{Text}

pub record Name : Type 0 where
  pub at : ℕ
  pub text : Text

-- NAME ":" NAME, as of a constant, a column, a row or a data parameter
pub record Declared : Type 0 where
  pub name : Name
  pub of : Name

pub record Function : Type 0 where
  pub total : Bool
  pub name : Name
  pub source : Name
  pub target : Name

-- "=" NAME
pub record Initial : Type 0 where
  pub at : ℕ
  pub constant : Name

pub record Variable : Type 0 where
  pub name : Name
  pub sort : Name
  pub initial : Option Initial

pub record Relation : Type 0 where
  pub name : Name
  pub first : Declared
  pub others : List Declared

-- what stands inside all functions of a term; `undef` has its place
pub data Base : Type 0 where
  undef : ℕ → Base
  plain : Name → Base
  cell : Name → Name → Base

-- the functions from the outside in
pub record Term : Type 0 where
  pub functions : List Name
  pub base : Base

pub record Literal : Type 0 where
  pub left : Term
  pub at : ℕ
  pub equal : Bool
  pub right : Term

-- `true` has its place
pub data Conjunction : Type 0 where
  always : ℕ → Conjunction
  all : Literal → List Literal → Conjunction

pub record Guard : Type 0 where
  pub first : Conjunction
  pub others : List Conjunction

pub record Update : Type 0 where
  pub name : Name
  pub column : Option Name
  pub at : ℕ
  pub term : Term

pub record Assignment : Type 0 where
  pub row : Name
  pub column : Name
  pub at : ℕ
  pub term : Term

-- the place is that of `if`
pub record Case : Type 0 where
  pub at : ℕ
  pub condition : Conjunction
  pub assignments : List Assignment

pub record Each : Type 0 where
  pub row : Name
  pub relation : Name
  pub first : Case
  pub others : List Case

pub record Step : Type 0 where
  pub name : Name
  pub rows : List Declared
  pub params : List Declared
  pub guard : Guard
  pub updates : List Update
  pub eachs : List Each

pub record Goal : Type 0 where
  pub rows : List Declared
  pub guard : Guard

pub record File : Type 0 where
  pub name : Name
  pub sorts : List Name
  pub functions : List Function
  pub constants : List Declared
  pub variables : List Variable
  pub relations : List Relation
  pub steps : List Step
  pub goals : List Goal

abbrev pub columns : Relation → List Declared
columns r = r.first ∷ r.others

abbrev pub disjuncts : Guard → List Conjunction
disjuncts g = g.first ∷ g.others

abbrev pub literals : Conjunction → List Literal
literals (always place) = []
literals (all l ls) = l ∷ ls

abbrev pub cases : Each → List Case
cases e = e.first ∷ e.others

-- the place of the first token of a term, and of a disjunct
abbrev pub base_place : Base → ℕ
base_place (undef place) = place
base_place (plain n) = n.at
base_place (cell row column) = row.at

abbrev first_place : List Name → Base → ℕ
first_place [] b = base_place b
first_place (f ∷ fs) b = f.at

abbrev pub term_place : Term → ℕ
term_place t = first_place t.functions t.base

abbrev pub disjunct_place : Conjunction → ℕ
disjunct_place (always place) = place
disjunct_place (all l ls) = term_place l.left
