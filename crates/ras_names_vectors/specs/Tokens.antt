-- The tokens of two texts.
use Rattle.std.specs.Prelude.{ℕ, List, [], ◌∷◌, codes}
use Prim.Native.String.{String}
use Rattle.ras_lexer.specs.declared.fixed.Fixed.{Fixed}
use Rattle.ras_lexer.specs.declared.fixed.Fixed.TheVariants as fixed
use Rattle.ras_lexer.specs.declared.token.Word.TheVariants as word
use Rattle.ras_lexer.specs.declared.token.Token.{Token}

abbrev pub sign : ℕ → Fixed → Token
sign place f = record { at = place; word = word.Fixed f }

abbrev pub named_at : ℕ → String → Token
named_at place text = record { at = place; word = word.Name (codes text) }

-- the tokens of `cycle_of_two`
abbrev pub cycle_tokens : List Token
cycle_tokens =
    sign 0 fixed.System ∷ named_at 7 "s" ∷ sign 8 fixed.Semicolon
    ∷ sign 10 fixed.Sort ∷ named_at 15 "A" ∷ sign 16 fixed.Semicolon
    ∷ sign 18 fixed.Sort ∷ named_at 23 "B" ∷ sign 24 fixed.Semicolon
    ∷ sign 26 fixed.Total ∷ named_at 32 "f" ∷ sign 34 fixed.Colon ∷ named_at 36 "A" ∷ sign 38 fixed.Arrow ∷ named_at 41 "B" ∷ sign 42 fixed.Semicolon
    ∷ sign 44 fixed.Total ∷ named_at 50 "g" ∷ sign 52 fixed.Colon ∷ named_at 54 "B" ∷ sign 56 fixed.Arrow ∷ named_at 59 "A" ∷ sign 60 fixed.Semicolon
    ∷ []

-- the tokens of `nullable_text`
abbrev pub nullable_tokens : List Token
nullable_tokens =
    sign 0 fixed.System ∷ named_at 7 "p" ∷ sign 8 fixed.Semicolon
    ∷ sign 9 fixed.Sort ∷ named_at 14 "A" ∷ sign 15 fixed.Semicolon
    ∷ sign 16 fixed.Sort ∷ named_at 21 "B" ∷ sign 22 fixed.Semicolon
    ∷ sign 23 fixed.Nullable ∷ named_at 32 "n" ∷ sign 33 fixed.Colon ∷ named_at 34 "B" ∷ sign 35 fixed.Arrow ∷ named_at 37 "A" ∷ sign 38 fixed.Semicolon
    ∷ sign 39 fixed.Var ∷ named_at 43 "x" ∷ sign 44 fixed.Colon ∷ named_at 45 "A" ∷ sign 46 fixed.Semicolon
    ∷ sign 47 fixed.Unsafe ∷ sign 53 fixed.OpenBrace
    ∷ sign 54 fixed.When ∷ named_at 59 "n" ∷ sign 60 fixed.OpenParen ∷ sign 61 fixed.Undef ∷ sign 66 fixed.CloseParen ∷ sign 67 fixed.NotEqual ∷ named_at 69 "x" ∷ sign 71 fixed.Or ∷ sign 74 fixed.True ∷ sign 78 fixed.Semicolon
    ∷ sign 79 fixed.CloseBrace
    ∷ []
