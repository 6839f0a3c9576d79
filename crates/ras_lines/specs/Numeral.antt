-- How a number is read: decimal digits without a leading zero.
use Rattle.std.specs.Prelude.{ℕ, ◌+◌, ◌*◌, ◌-◌, ◌^◌, List, [], ◌∷◌, Option, Some, None, Bool, true, false, not, ◌==◌, ◌&&◌, nat_lt, if◌then◌else◌}
use Rattle.std.specs.Str.{all_ascii_digits}

abbrev pub read_on : ℕ → List ℕ → ℕ
read_on n [] = n
read_on n (c ∷ cs) = read_on (10 * n + (c - 48)) cs

abbrev pub has_no_leading_zero : List ℕ → Bool
has_no_leading_zero [] = false
has_no_leading_zero (c ∷ []) = true
has_no_leading_zero (c ∷ d ∷ ds) = not (c == 48)

-- the number below 2^32 that a word spells
abbrev pub number_of : List ℕ → Option ℕ
number_of w = if has_no_leading_zero w && (all_ascii_digits w && nat_lt (read_on 0 w) (2 ^ 32)) then Some (read_on 0 w) else None
