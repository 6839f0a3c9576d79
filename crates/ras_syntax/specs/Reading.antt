-- What a reader owes, whatever is to be read behind it.
use Rattle.std.specs.Prelude.{◌≡◌, List, ◌++◌, Some, None, Result, Ok, Err}
use Rattle.ras_lexer.specs.declared.token.Token.{Token}
use Rattle.ras_syntax.specs.declared.fault.ReadError.{ReadError}
use Rattle.ras_syntax.specs.declared.fault.ReadError.TheVariants.{Memory, Fault}
use Rattle.ras_syntax.specs.Machine.{Sym, fault}
use Rattle.ras_syntax.specs.Places.{words}

-- Where the symbols are to be read from the tokens before, what is left by the value is to be read from those after; or the fault is named.
abbrev pub Moves : {X : Type 0} → List Sym → List Token → List Token → (X → List Sym) → Result X ReadError → Type 0
Moves G before after left (Ok x) = (K : List Sym) → fault (G ++ K) (words before) ≡ fault (left x ++ K) (words after)
Moves G before after left (Err Memory) = Unit {0}
Moves G before after left (Err (Fault n)) = (K : List Sym) → fault (G ++ K) (words before) ≡ Some n

-- the tokens of the value were taken
abbrev pub Took : {X : Type 0} → List Token → List Token → (X → List Token) → Result X ReadError → Type 0
Took before after of (Ok x) = before ≡ of x ++ after
Took before after of (Err e) = Unit {0}

-- all tokens are read
abbrev pub ReadsAll : {X : Type 0} → List Sym → List Token → (X → List Token) → Result X ReadError → Type 0
ReadsAll G before of (Ok x) = (before ≡ of x) × (fault G (words before) ≡ None)
ReadsAll G before of (Err Memory) = Unit {0}
ReadsAll G before of (Err (Fault n)) = fault G (words before) ≡ Some n
