-- Fixed bytes and numbers at the front of bytes.
use Rattle.std.specs.Prelude.{ℕ, suc, ◌^◌, List, [], ◌∷◌, take, drop, Option, Some, None, Ok, Err, nat_lt, ◌==◌, if◌then◌else◌}
use Rattle.std.specs.Char.{is_ascii_digit}
use Rattle.ras_lines.specs.Numeral.{number_of}
use Rattle.ras_lines.specs.Fronts.{Front, follow, times}

-- the bytes behind these bytes, where they come first
abbrev pub behind : List ℕ → List ℕ → Option (List ℕ)
behind [] bytes = Some bytes
behind (c ∷ word) [] = None
behind (c ∷ word) (b ∷ bytes) = if b == c then behind word bytes else None

-- one thing behind these bytes, and another where they do not come first
abbrev pub either : {X : Type 0} → Option (List ℕ) → (List ℕ → X) → X → X
either (Some rest) f x = f rest
either None f x = x

abbrev pub fixed : List ℕ → List ℕ → Front ℕ (Unit {0})
fixed word bytes = either (behind word bytes) (λ rest. Ok (tt, rest)) (Err bytes)

-- how many digits come first
abbrev pub digit_count : List ℕ → ℕ
digit_count [] = 0
digit_count (b ∷ bytes) = if is_ascii_digit b then suc (digit_count bytes) else 0

abbrev pub number_or : List ℕ → List ℕ → Option ℕ → Front ℕ ℕ
number_or bytes rest (Some n) = Ok (n, rest)
number_or bytes rest None = Err bytes

-- a number below 2^32, of all digits that come first
abbrev pub number : List ℕ → Front ℕ ℕ
number bytes = number_or bytes (drop (digit_count bytes) bytes) (number_of (take (digit_count bytes) bytes))

abbrev pub if_small : ℕ → List ℕ → Front ℕ ℕ
if_small n rest = if nat_lt n (2 ^ 16) then Ok (n, rest) else Err rest

-- a number below 65,536
abbrev pub small_number : List ℕ → Front ℕ ℕ
small_number bytes = follow (number bytes) if_small

-- a blank, and what comes behind it
abbrev pub behind_blank : {X : Type 0} → (List ℕ → Front ℕ X) → List ℕ → Front ℕ X
behind_blank f bytes = follow (fixed (32 ∷ []) bytes) (λ _ rest. f rest)

-- a count, and so many values, each behind a blank
abbrev pub announced : {X : Type 0} → (List ℕ → Front ℕ X) → List ℕ → Front ℕ (List X)
announced f bytes = follow (behind_blank number bytes) (λ n rest. times (behind_blank f) n rest)
