-- The words of terms, literals and cubes.
use Rattle.std.specs.Prelude.{◌≡◌, ℕ, ◌<◌, ◌^◌, List, [], ◌++◌, map, flat_map, true, false, codes}
use Rattle.std.specs.List.{AllByRecursion}
use Rattle.std.specs.Fmt.{decimal}
use Rattle.ras_logic.specs.declared.ids.FunId.{FunId}
use Rattle.ras_logic.specs.declared.ids.RelId.{RelId}
use Rattle.ras_logic.specs.declared.term.Base.{Base}
use Rattle.ras_logic.specs.declared.term.Base.TheVariants.{Var, Cell, Constant, Undef, Param}
use Rattle.ras_logic.specs.declared.term.Term.{Term}
use Rattle.ras_logic.specs.declared.literal.Literal.{Literal}
use Rattle.ras_logic.specs.declared.literal.Literal.TheVariants.{Equal}
use Rattle.ras_logic.specs.declared.problem.Problem.{Problem}
use Rattle.ras_lines.specs.Lines.{line, counted, AreWritten}

-- `v3`, `r0.2`, `c1`, `u2`; a cube has no data parameters, and they have no word
abbrev pub base_word : Base → List ℕ
base_word (Var v) = codes "v" ++ decimal v.n
base_word (Cell row column) = codes "r" ++ (decimal row ++ (codes "." ++ decimal column))
base_word (Constant c) = codes "c" ++ decimal c.n
base_word (Undef s) = codes "u" ++ decimal s.n
base_word (Param p) = []

-- `/3/5`
abbrev pub path_word : List FunId → List ℕ
path_word path = flat_map (λ (f : FunId). codes "/" ++ decimal f.n) path

abbrev pub term_word : Term → List ℕ
term_word t = base_word t.base ++ path_word t.path

-- `t=w`, `t!=w`
abbrev pub literal_word : Literal → List ℕ
literal_word (Equal left right true) = term_word left ++ (codes "=" ++ term_word right)
literal_word (Equal left right false) = term_word left ++ (codes "!=" ++ term_word right)

abbrev pub relation_word : RelId → List ℕ
relation_word r = decimal r.n

-- `cube R s1 .. sR L l1 .. lL`
abbrev pub cube_line : Problem → List ℕ
cube_line p = line (codes "cube") (counted (map relation_word p.rows) ++ counted (map literal_word p.literals))

-- What has a word: the numbers of terms and relations are below 65,536, and counts are below 4,294,967,296.

abbrev pub IsSmallBase : Base → Type 0
IsSmallBase (Var v) = v.n < 2 ^ 16
IsSmallBase (Cell row column) = (row < 2 ^ 16) × (column < 2 ^ 16)
IsSmallBase (Constant c) = c.n < 2 ^ 16
IsSmallBase (Undef s) = s.n < 2 ^ 16
IsSmallBase (Param p) = ⊥

abbrev pub IsSmallFunction : FunId → Type 0
IsSmallFunction f = f.n < 2 ^ 16

pub record IsSmallTerm (t : Term) : Type 0 where
  pub base : IsSmallBase t.base
  pub path : AllByRecursion IsSmallFunction t.path

abbrev pub IsSmallLiteral : Literal → Type 0
IsSmallLiteral (Equal left right same) = IsSmallTerm left × IsSmallTerm right

abbrev pub IsSmallRelation : RelId → Type 0
IsSmallRelation r = r.n < 2 ^ 16

pub record IsSmallCube (p : Problem) : Type 0 where
  pub params : p.params ≡ []
  pub rows : AreWritten IsSmallRelation p.rows
  pub literals : AreWritten IsSmallLiteral p.literals
