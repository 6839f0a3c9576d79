-- Words of digits and their numbers.
use Rattle.std.proofs.Common.{◌≡◌, ℕ, ◌+◌, ◌-◌, ◌*◌, ◌^◌, ◌<◌, ◌≤◌, List, [], ◌∷◌, ◌++◌, length, get_or, Option, Some, None, Bool, true, false, cond, eqb, ltb, ◌&&◌, refl, sym, ap, ◌∙◌, arith, rules, tests, inl, inr, ◌⊎◌}
use Rattle.std.specs.Str.{all_ascii_digits}
use Rattle.std.specs.Fmt.{decimal}
use Rattle.std.proofs.lemmas.Bool.{ltb-true, le-ltb, lt-ltb, eqb-false, ne_eqb, not-true, not_from_false, and_parts, and_left, and_right, cases_lt}
use Rattle.std.specs.Char.{is_ascii_digit}
use Rattle.std.proofs.lemmas.Fmt.{digits_decimal, digits_value-decimal, decimal-digits_value, first_decimal, decimal_nonempty, decimal_digit}
use Rattle.std.proofs.lemmas.Str.Parse.{IsNumeralModel, numerals_by_fold}
use Rattle.ras_lines.specs.Numeral.{read_on, has_no_leading_zero, number_of}

swapped : (n c : ℕ) (cs : List ℕ) → read_on (10 * n + (c - 48)) cs ≡ read_on (n * 10 + (c - 48)) cs
swapped n c cs = ap (λ m. read_on m cs) (omega arith)

pub own : IsNumeralModel (λ ds. all_ascii_digits ds ≡ true) (read_on 0)
own = numerals_by_fold _ (search rules) read_on (search rules)

pub grows : (n : ℕ) (ds : List ℕ) → n ≤ read_on n ds
grows n [] = omega arith
grows n (c ∷ cs) = omega (arith, grows (10 * n + (c - 48)) cs)

zero_free : (w : List ℕ) → 0 < length w → (get_or w 0 0 ≡ 48 → length w ≡ 1) → has_no_leading_zero w ≡ true
zero_free [] lt h = absurd (omega arith)
zero_free (c ∷ []) lt h = refl
zero_free (c ∷ d ∷ ds) lt h = not_from_false (eqb c 48) (ne_eqb c 48 (λ e. omega (arith, h e)))

zero_known : (w : List ℕ) → has_no_leading_zero w ≡ true → (0 < length w) × (get_or w 0 0 ≡ 48 → length w ≡ 1)
zero_known [] e = absurd cc
zero_known (c ∷ []) e = (omega arith, λ _. refl)
zero_known (c ∷ d ∷ ds) e = (omega arith, λ z. absurd (eqb-false c 48 (not-true (eqb c 48) e) z))

some_if : (b : Bool) (x n : ℕ) → ◌≡◌ {A = Option ℕ} (cond b (Some x) None) (Some n) → (b ≡ true) × (x ≡ n)
some_if true x n e = (refl, cc)
some_if false x n e = absurd cc

pub number_is : (w : List ℕ) (n : ℕ) → number_of w ≡ Some n → (w ≡ decimal n) × (n < 2 ^ 32)
number_is w n e =
    let s = some_if (has_no_leading_zero w && (all_ascii_digits w && ltb (read_on 0 w) (2 ^ 32))) (read_on 0 w) n e in
    let p = and_parts (has_no_leading_zero w) (all_ascii_digits w && ltb (read_on 0 w) (2 ^ 32)) s.0 in
    let q = and_parts (all_ascii_digits w) (ltb (read_on 0 w) (2 ^ 32)) p.1 in
    let z = zero_known w p.0 in
    let small : read_on 0 w < 2 ^ 32 = ltb-true _ _ q.1 in
    let is : decimal (read_on 0 w) ≡ w = decimal-digits_value own w q.0 z.0 z.1 (omega (arith, small)) in
    (sym is ∙ ap decimal s.1, omega (arith, small, s.1))

decimal_zero_free : (n : ℕ) → n < 2 ^ 32 → has_no_leading_zero (decimal n) ≡ true
decimal_zero_free n lt =
    zero_free (decimal n) (decimal_nonempty n (omega (arith, lt)))
    (λ e. elim (cases_lt 0 n) [
      | inl pos ↦ absurd (omega (arith, first_decimal n pos (omega (arith, lt)), e))
      | inr le ↦ ap length (decimal_digit n (omega (arith, le)))
    ])

pub number_again : (n : ℕ) → n < 2 ^ 32 → number_of (decimal n) ≡ Some n
number_again n lt =
    let value : read_on 0 (decimal n) ≡ n = digits_value-decimal own n (omega (arith, lt)) in
    let ds : all_ascii_digits (decimal n) ≡ true = digits_decimal own n (omega (arith, lt)) in
    let z = decimal_zero_free n lt in
    let small : ltb n (2 ^ 32) ≡ true = lt-ltb n (2 ^ 32) lt in
    rw (z, ds, value, small) refl

none_if : (b : Bool) (x : ℕ) → b ≡ false → ◌≡◌ {A = Option ℕ} None (cond b (Some x) None)
none_if b x e = rw e refl

pub no_digits : (w : List ℕ) → all_ascii_digits w ≡ false → None ≡ number_of w
no_digits w e = none_if _ (read_on 0 w) (and_right (has_no_leading_zero w) _ (and_left (all_ascii_digits w) (ltb (read_on 0 w) (2 ^ 32)) e))

pub leads : (w : List ℕ) → has_no_leading_zero w ≡ false → None ≡ number_of w
leads w e = none_if _ (read_on 0 w) (and_left (has_no_leading_zero w) _ e)

pub too_large : (w : List ℕ) → 2 ^ 32 ≤ read_on 0 w → None ≡ number_of w
too_large w le = none_if _ (read_on 0 w) (and_right (has_no_leading_zero w) _ (and_right (all_ascii_digits w) (ltb (read_on 0 w) (2 ^ 32)) (le-ltb _ _ le)))

pub is_number : (w : List ℕ) → has_no_leading_zero w ≡ true → all_ascii_digits w ≡ true → read_on 0 w < 2 ^ 32 → Some (read_on 0 w) ≡ number_of w
is_number w z ds lt = let small : ltb (read_on 0 w) (2 ^ 32) ≡ true = lt-ltb _ _ lt in rw (z, ds, small) refl

pub not_digit : (b : ℕ) (cs : List ℕ) → (b < 48) ⊎ (57 < b) → all_ascii_digits (b ∷ cs) ≡ false
not_digit b cs (inl h) = and_left (is_ascii_digit b) (all_ascii_digits cs) (search (rules, tests))
not_digit b cs (inr h) = and_left (is_ascii_digit b) (all_ascii_digits cs) (search (rules, tests))

pub not_sign : (b : ℕ) → is_ascii_digit b ≡ true → (eqb b 10 ≡ false) × (eqb b 32 ≡ false)
not_sign b e =
    let low : 48 ≤ b = search (rules, tests) in
    (ne_eqb b 10 (λ h. omega (arith, low, h)), ne_eqb b 32 (λ h. omega (arith, low, h)))

-- the number's word is its one spelling
pub number_text : (bytes word rest : List ℕ) (n : ℕ) → bytes ≡ word ++ rest → Some n ≡ number_of word → bytes ≡ decimal n ++ rest
number_text bytes word rest n e h = e ∙ ap (λ (v : List ℕ). v ++ rest) (number_is word n (sym h)).0
