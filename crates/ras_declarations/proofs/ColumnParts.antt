-- The columns of a relation, and what is true of the first of some elements and of the others.
use Rattle.std.proofs.Common.{zero, suc, List, ◌∷◌, arith}
use Rattle.std.specs.Prelude.{All}
use Rattle.ras_syntax.specs.Grammar.{Text}
use Rattle.ras_logic.specs.declared.ids.SortId.{SortId}
use Rattle.ras_names.specs.Placed.{Declared as Item}
use Rattle.ras_numbering.specs.Numbers.{number_in}

-- the sort of a column by its number among these sorts
abbrev pub numbered_column : List Text → Item → SortId
numbered_column sorts d = record { n = number_in sorts d.of.text }

pub front_all : {A : Type 0} (P : A → Type 0) (x : A) (xs : List A) → P x → All P xs → All P (x ∷ xs)
front_all P x xs h all zero d lt = h
front_all P x xs h all (suc k) d lt = all k d (omega (arith, lt))

pub tail_all : {A : Type 0} (P : A → Type 0) (x : A) (xs : List A) → All P (x ∷ xs) → All P xs
tail_all P x xs all k d lt = all (suc k) d (omega (arith, lt))

pub head_all : {A : Type 0} (P : A → Type 0) (x : A) (xs : List A) → All P (x ∷ xs) → P x
head_all P x xs all = all 0 x (omega arith)
