-- Terms, literals and cubes at the front of bytes.
use Rattle.std.specs.Prelude.{ℕ, zero, suc, List, [], ◌∷◌, length, Bool, true, false, Ok, Err, codes}
use Rattle.ras_logic.specs.declared.ids.FunId.{FunId}
use Rattle.ras_logic.specs.declared.ids.RelId.{RelId}
use Rattle.ras_logic.specs.declared.term.Base.{Base}
use Rattle.ras_logic.specs.declared.term.Base.TheVariants.{Var, Cell, Constant, Undef}
use Rattle.ras_logic.specs.declared.term.Term.{Term}
use Rattle.ras_logic.specs.declared.literal.Literal.{Literal}
use Rattle.ras_logic.specs.declared.literal.Literal.TheVariants.{Equal}
use Rattle.ras_logic.specs.declared.problem.Problem.{Problem}
use Rattle.ras_lines.specs.Fronts.{Front, follow, prepend}
use Rattle.ras_lines.specs.Numbers.{behind, either, fixed, small_number, announced}

abbrev pub relation : List ℕ → Front ℕ RelId
relation bytes = follow (small_number bytes) (λ n rest. Ok (record { n = n }, rest))

abbrev pub variable : List ℕ → Front ℕ Base
variable bytes = follow (small_number bytes) (λ n rest. Ok (Var (record { n = n }), rest))

abbrev pub constant : List ℕ → Front ℕ Base
constant bytes = follow (small_number bytes) (λ n rest. Ok (Constant (record { n = n }), rest))

abbrev pub undef : List ℕ → Front ℕ Base
undef bytes = follow (small_number bytes) (λ n rest. Ok (Undef (record { n = n }), rest))

abbrev pub cell : List ℕ → Front ℕ Base
cell bytes = follow (small_number bytes) (λ row dot. follow (fixed (codes ".") dot) (λ _ number. follow (small_number number) (λ column rest. Ok (Cell row column, rest))))

abbrev pub base : List ℕ → Front ℕ Base
base bytes =
    either (behind (codes "v") bytes) variable
    (either (behind (codes "c") bytes) constant
    (either (behind (codes "u") bytes) undef
    (either (behind (codes "r") bytes) cell (Err bytes))))

-- functions, each behind a `/`, so many at most
abbrev pub path_up_to : ℕ → List ℕ → Front ℕ (List FunId)
path_up_to zero bytes = Ok ([], bytes)
path_up_to (suc k) bytes = either (behind (codes "/") bytes) (λ more. follow (small_number more) (λ n rest. prepend (record { n = n } ∷ []) (path_up_to k rest))) (Ok ([], bytes))

abbrev pub path : List ℕ → Front ℕ (List FunId)
path bytes = path_up_to (length bytes) bytes

abbrev pub term : List ℕ → Front ℕ Term
term bytes = follow (base bytes) (λ b more. follow (path more) (λ p rest. Ok (record { base = b; path = p }, rest)))

-- whether the sign between two terms is `=`, or else `!=`
abbrev pub sign : List ℕ → Front ℕ Bool
sign bytes = either (behind (codes "=") bytes) (λ rest. Ok (true, rest)) (either (behind (codes "!=") bytes) (λ rest. Ok (false, rest)) (Err bytes))

abbrev pub literal : List ℕ → Front ℕ Literal
literal bytes = follow (term bytes) (λ left more. follow (sign more) (λ same behind_sign. follow (term behind_sign) (λ right rest. Ok (Equal left right same, rest))))

abbrev pub cube : List ℕ → Front ℕ Problem
cube bytes =
    follow (fixed (codes "cube") bytes) (λ _ more.
    follow (announced relation more) (λ rows behind_rows.
    follow (announced literal behind_rows) (λ literals rest. Ok (record { rows = rows; params = []; literals = literals }, rest))))
