-- The table of the reserved words and signs has each of them.
use Rattle.std.proofs.Common.{◌≡◌, ◌≢◌, ℕ, zero, suc, ◌<◌, List, [], ◌∷◌, length, get_or, Option, Some, None, Bool, true, false, cond, MatchOption, unwrap_or, Decides, refl, sym, ap, subst, ◌∙◌, arith, lit<}
use Rattle.std.specs.List.{find}
use Rattle.std.specs.Str.{bytes_eq}
use Rattle.std.proofs.lemmas.Slice.Eq.{bytes_eq-Decides}
use Rattle.std.proofs.lemmas.Bool.{false≢true}
use Rattle.ras_lexer.specs.declared.fixed.Fixed.{Fixed}
use Rattle.ras_lexer.specs.declared.fixed.Fixed.TheVariants as fixed
use Rattle.ras_lexer.specs.Words.{fixed_bytes}
use Rattle.ras_lexer.specs.Lengths.{of_length}

-- the place of each among those that are as long
abbrev index : Fixed → ℕ
index fixed.System = 1
index fixed.Sort = 4
index fixed.Total = 3
index fixed.Nullable = 1
index fixed.Const = 2
index fixed.Var = 2
index fixed.Relation = 0
index fixed.Step = 0
index fixed.Row = 1
index fixed.Param = 1
index fixed.When = 1
index fixed.Or = 2
index fixed.And = 0
index fixed.True = 3
index fixed.Undef = 0
index fixed.Each = 2
index fixed.If = 3
index fixed.Unsafe = 0
index fixed.OpenBrace = 5
index fixed.CloseBrace = 6
index fixed.OpenParen = 7
index fixed.CloseParen = 8
index fixed.Semicolon = 2
index fixed.Colon = 3
index fixed.Comma = 4
index fixed.Dot = 0
index fixed.Equal = 1
index fixed.NotEqual = 0
index fixed.Assign = 1
index fixed.Arrow = 4

abbrev pub all : List Fixed
all = fixed.System ∷ fixed.Sort ∷ fixed.Total ∷ fixed.Nullable ∷ fixed.Const ∷ fixed.Var ∷ fixed.Relation ∷ fixed.Step ∷ fixed.Row ∷ fixed.Param ∷ fixed.When ∷ fixed.Or ∷ fixed.And ∷ fixed.True ∷ fixed.Undef ∷ fixed.Each ∷ fixed.If ∷ fixed.Unsafe ∷ fixed.OpenBrace ∷ fixed.CloseBrace ∷ fixed.OpenParen ∷ fixed.CloseParen ∷ fixed.Semicolon ∷ fixed.Colon ∷ fixed.Comma ∷ fixed.Dot ∷ fixed.Equal ∷ fixed.NotEqual ∷ fixed.Assign ∷ fixed.Arrow ∷ []

-- those that are as long as this one
abbrev as_long : Fixed → List Fixed
as_long f = of_length (length (fixed_bytes f))

found_at : (f : Fixed) → get_or (as_long f) (index f) f ≡ f
found_at fixed.System = refl
found_at fixed.Sort = refl
found_at fixed.Total = refl
found_at fixed.Nullable = refl
found_at fixed.Const = refl
found_at fixed.Var = refl
found_at fixed.Relation = refl
found_at fixed.Step = refl
found_at fixed.Row = refl
found_at fixed.Param = refl
found_at fixed.When = refl
found_at fixed.Or = refl
found_at fixed.And = refl
found_at fixed.True = refl
found_at fixed.Undef = refl
found_at fixed.Each = refl
found_at fixed.If = refl
found_at fixed.Unsafe = refl
found_at fixed.OpenBrace = refl
found_at fixed.CloseBrace = refl
found_at fixed.OpenParen = refl
found_at fixed.CloseParen = refl
found_at fixed.Semicolon = refl
found_at fixed.Colon = refl
found_at fixed.Comma = refl
found_at fixed.Dot = refl
found_at fixed.Equal = refl
found_at fixed.NotEqual = refl
found_at fixed.Assign = refl
found_at fixed.Arrow = refl

index_lt : (f : Fixed) → index f < length (as_long f)
index_lt fixed.System = lit< tt
index_lt fixed.Sort = lit< tt
index_lt fixed.Total = lit< tt
index_lt fixed.Nullable = lit< tt
index_lt fixed.Const = lit< tt
index_lt fixed.Var = lit< tt
index_lt fixed.Relation = lit< tt
index_lt fixed.Step = lit< tt
index_lt fixed.Row = lit< tt
index_lt fixed.Param = lit< tt
index_lt fixed.When = lit< tt
index_lt fixed.Or = lit< tt
index_lt fixed.And = lit< tt
index_lt fixed.True = lit< tt
index_lt fixed.Undef = lit< tt
index_lt fixed.Each = lit< tt
index_lt fixed.If = lit< tt
index_lt fixed.Unsafe = lit< tt
index_lt fixed.OpenBrace = lit< tt
index_lt fixed.CloseBrace = lit< tt
index_lt fixed.OpenParen = lit< tt
index_lt fixed.CloseParen = lit< tt
index_lt fixed.Semicolon = lit< tt
index_lt fixed.Colon = lit< tt
index_lt fixed.Comma = lit< tt
index_lt fixed.Dot = lit< tt
index_lt fixed.Equal = lit< tt
index_lt fixed.NotEqual = lit< tt
index_lt fixed.Assign = lit< tt
index_lt fixed.Arrow = lit< tt

-- none of the list is written by the bytes
abbrev NoneWritten : List Fixed → List ℕ → Type 0
NoneWritten fs bytes = (k : ℕ) (d : Fixed) → k < length fs → fixed_bytes (get_or fs k d) ≢ bytes

none_more : (f : Fixed) (fs : List Fixed) (bytes : List ℕ) → fixed_bytes f ≢ bytes → NoneWritten fs bytes → NoneWritten (f ∷ fs) bytes
none_more f fs bytes first none zero d lt = first
none_more f fs bytes first none (suc k) d lt = none k d (omega arith)

later : (f : Fixed) (fs : List Fixed) (bytes : List ℕ) (r : Option Fixed) → fixed_bytes f ≢ bytes
    → MatchOption r (NoneWritten fs bytes) (λ g. fixed_bytes g ≡ bytes) → MatchOption r (NoneWritten (f ∷ fs) bytes) (λ g. fixed_bytes g ≡ bytes)
later f fs bytes None other none = none_more f fs bytes other none
later f fs bytes (Some g) other h = h

one_more : (f : Fixed) (fs : List Fixed) (bytes : List ℕ) (b : Bool) → Decides b (fixed_bytes f ≡ bytes) → (r : Option Fixed)
    → MatchOption r (NoneWritten fs bytes) (λ g. fixed_bytes g ≡ bytes) → MatchOption (cond b (Some f) r) (NoneWritten (f ∷ fs) bytes) (λ g. fixed_bytes g ≡ bytes)
one_more f fs bytes true decides r h = decides.0 refl
one_more f fs bytes false decides r h = later f fs bytes r (λ e. false≢true (decides.1 e)) h

found : (fs : List Fixed) (bytes : List ℕ) → MatchOption (find (λ f. bytes_eq (fixed_bytes f) bytes) fs) (NoneWritten fs bytes) (λ f. fixed_bytes f ≡ bytes)
found [] bytes = λ k d lt. absurd (omega arith)
found (f ∷ fs) bytes = one_more f fs bytes (bytes_eq (fixed_bytes f) bytes) (bytes_eq-Decides (fixed_bytes f) bytes) (find (λ g. bytes_eq (fixed_bytes g) bytes) fs) (found fs bytes)

none_at_all : (bytes : List ℕ) (r : Option Fixed) → MatchOption r (NoneWritten (of_length (length bytes)) bytes) (λ f. fixed_bytes f ≡ bytes)
    → MatchOption r ((f : Fixed) → fixed_bytes f ≢ bytes) (λ f. fixed_bytes f ≡ bytes)
none_at_all bytes None none = λ f e.
    let same : as_long f ≡ of_length (length bytes) = ap (λ (bs : List ℕ). of_length (length bs)) e in
    subst (λ (fs : List Fixed). NoneWritten fs bytes) (sym same) none (index f) f (index_lt f) (ap fixed_bytes (found_at f) ∙ e)
none_at_all bytes (Some f) h = h

pub of_is : (bytes : List ℕ) (r : Option Fixed) → r ≡ find (λ f. bytes_eq (fixed_bytes f) bytes) (of_length (length bytes)) → MatchOption r ((f : Fixed) → fixed_bytes f ≢ bytes) (λ f. fixed_bytes f ≡ bytes)
of_is bytes r e =
    none_at_all bytes r (subst (λ (o : Option Fixed). MatchOption o (NoneWritten (of_length (length bytes)) bytes) (λ f. fixed_bytes f ≡ bytes)) (sym e) (found (of_length (length bytes)) bytes))

-- the reserved word or sign that is written by the bytes, or any
abbrev pub first_of : List ℕ → Fixed
first_of bytes = unwrap_or (find (λ f. bytes_eq (fixed_bytes f) bytes) all) fixed.System

pub first_of-fixed_bytes : (f : Fixed) → first_of (fixed_bytes f) ≡ f
first_of-fixed_bytes fixed.System = refl
first_of-fixed_bytes fixed.Sort = refl
first_of-fixed_bytes fixed.Total = refl
first_of-fixed_bytes fixed.Nullable = refl
first_of-fixed_bytes fixed.Const = refl
first_of-fixed_bytes fixed.Var = refl
first_of-fixed_bytes fixed.Relation = refl
first_of-fixed_bytes fixed.Step = refl
first_of-fixed_bytes fixed.Row = refl
first_of-fixed_bytes fixed.Param = refl
first_of-fixed_bytes fixed.When = refl
first_of-fixed_bytes fixed.Or = refl
first_of-fixed_bytes fixed.And = refl
first_of-fixed_bytes fixed.True = refl
first_of-fixed_bytes fixed.Undef = refl
first_of-fixed_bytes fixed.Each = refl
first_of-fixed_bytes fixed.If = refl
first_of-fixed_bytes fixed.Unsafe = refl
first_of-fixed_bytes fixed.OpenBrace = refl
first_of-fixed_bytes fixed.CloseBrace = refl
first_of-fixed_bytes fixed.OpenParen = refl
first_of-fixed_bytes fixed.CloseParen = refl
first_of-fixed_bytes fixed.Semicolon = refl
first_of-fixed_bytes fixed.Colon = refl
first_of-fixed_bytes fixed.Comma = refl
first_of-fixed_bytes fixed.Dot = refl
first_of-fixed_bytes fixed.Equal = refl
first_of-fixed_bytes fixed.NotEqual = refl
first_of-fixed_bytes fixed.Assign = refl
first_of-fixed_bytes fixed.Arrow = refl
