-- The reserved words and signs by their lengths.
use Rattle.std.specs.Prelude.{ℕ, List, [], ◌∷◌, ◌==◌, if◌then◌else◌}
use Rattle.ras_lexer.specs.declared.fixed.Fixed.{Fixed}
use Rattle.ras_lexer.specs.declared.fixed.Fixed.TheVariants as fixed

-- those that are written by this many bytes
abbrev pub of_length : ℕ → List Fixed
of_length n =
    if n == 1 then fixed.Dot ∷ fixed.Equal ∷ fixed.Semicolon ∷ fixed.Colon ∷ fixed.Comma ∷ fixed.OpenBrace ∷ fixed.CloseBrace ∷ fixed.OpenParen ∷ fixed.CloseParen ∷ []
    else if n == 2 then fixed.NotEqual ∷ fixed.Assign ∷ fixed.Or ∷ fixed.If ∷ fixed.Arrow ∷ []
    else if n == 3 then fixed.And ∷ fixed.Row ∷ fixed.Var ∷ []
    else if n == 4 then fixed.Step ∷ fixed.When ∷ fixed.Each ∷ fixed.True ∷ fixed.Sort ∷ []
    else if n == 5 then fixed.Undef ∷ fixed.Param ∷ fixed.Const ∷ fixed.Total ∷ []
    else if n == 6 then fixed.Unsafe ∷ fixed.System ∷ []
    else if n == 8 then fixed.Relation ∷ fixed.Nullable ∷ []
    else []
